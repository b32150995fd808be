use Rattle.std.specs.Prelude.{map}
use Rattle.fact_index.proofs.RunLaws.{AreFound}
use Rattle.fact_index.proofs.links.in_run.Given as goal

abbrev pub invariant-loop-link : goal.invariant-loop-link
invariant-loop-link l = AreFound l.run (map (λ k. k.now) l.yielded) l.found.items
