use Rattle.std.proofs.Common.{take}
use Rattle.fact_index.proofs.LinkLaws.{AreTurned}
use Rattle.fact_index.proofs.links.all_turned.Given as goal

abbrev pub invariant-loop-link : goal.invariant-loop-link
invariant-loop-link l = AreTurned (take l.link-index l.links) l.found.items
