use Rattle.std.proofs.Common.{take}
use Rattle.fact_index.specs.Looking.{AreWithin, facts_of}
use Rattle.fact_index.proofs.WholeLaws.{HasAll}
use Rattle.fact_index.proofs.index.links_in.Given as goal

abbrev pub invariant-loop-fact : goal.invariant-loop-fact
invariant-loop-fact l = AreWithin l.numbers l.links.items × HasAll (take l.fact-index l.facts) (facts_of l.numbers l.links.items)
