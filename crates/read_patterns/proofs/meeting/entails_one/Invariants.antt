use Rattle.std.proofs.Common.{take, [], ◌∷◌}
use Rattle.dl_base.specs.Derivation.{InClosure}
use Rattle.dl_base.specs.declared.statements.Fact.{Fact}
use Rattle.tbox_closure.proofs.LoopLaws.{None}
use Rattle.read_patterns.proofs.meeting.entails_one.Given as goal

abbrev pub invariant-loop-deleted : goal.invariant-loop-deleted
invariant-loop-deleted l = None (λ (d : Fact). InClosure l.entailers.axioms (l.fact ∷ []) d) (take l.deleted-index l.deletes)
