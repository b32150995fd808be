use Rattle.std.proofs.Common.{take, [], ◌∷◌}
use Rattle.dl_base.specs.Derivation.{InClosure}
use Rattle.dl_base.specs.declared.statements.Fact.{Fact}
use Rattle.tbox_closure.proofs.LoopLaws.{None}
use Rattle.update_engine.proofs.meeting.entails_one.Given as goal

abbrev pub invariant-loop-deleted : goal.invariant-loop-deleted
invariant-loop-deleted l = None (λ (d : Fact). InClosure l.rules.axioms (l.given ∷ []) d) (take l.deleted-index l.deletes)
