use Rattle.std.proofs.Common.{take}
use Rattle.dl_base.specs.Picks.{Picks}
use Rattle.dl_base.specs.Updates.{Meets}
use Rattle.update_engine.proofs.picking.staying.Given as goal

abbrev pub invariant-loop-fact : goal.invariant-loop-fact
invariant-loop-fact l = Picks (λ f. ¬ Meets l.rules.axioms l.inserts l.deletes f) (take l.fact-index l.facts) l.picked.items
