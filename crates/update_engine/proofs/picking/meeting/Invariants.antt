use Rattle.std.proofs.Common.{take}
use Rattle.dl_base.specs.Picks.{Picks}
use Rattle.dl_base.specs.Updates.{Meets}
use Rattle.update_engine.proofs.picking.meeting.Given as goal

abbrev pub invariant-loop-fact : goal.invariant-loop-fact
invariant-loop-fact l = Picks (Meets l.rules.axioms l.inserts l.deletes) (take l.fact-index l.facts) l.picked.items
