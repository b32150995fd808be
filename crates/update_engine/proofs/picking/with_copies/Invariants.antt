use Rattle.std.proofs.Common.{take}
use Rattle.update_engine.proofs.StepLaws.{Joins}
use Rattle.update_engine.proofs.picking.with_copies.Given as goal

abbrev pub invariant-loop-fact : goal.invariant-loop-fact
invariant-loop-fact l = Joins l.initial.facts.items (take l.fact-index l.others) l.facts.items
