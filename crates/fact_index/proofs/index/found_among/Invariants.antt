use Rattle.std.proofs.Common.{take}
use Rattle.fact_index.proofs.FoundLaws.{AreFound}
use Rattle.fact_index.proofs.index.found_among.Given as goal

abbrev pub invariant-loop-link : goal.invariant-loop-link
invariant-loop-link l = AreFound l.numbers (take l.link-index l.links) l.pattern l.found.items
