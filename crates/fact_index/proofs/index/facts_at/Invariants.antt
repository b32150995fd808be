use Rattle.std.proofs.Common.{◌≡◌, take, map}
use Rattle.fact_index.specs.Numbers.{fact_at}
use Rattle.fact_index.proofs.index.facts_at.Given as goal

abbrev pub invariant-loop-link : goal.invariant-loop-link
invariant-loop-link l = l.facts.items ≡ map (fact_at l.numbers) (take l.link-index l.links)
