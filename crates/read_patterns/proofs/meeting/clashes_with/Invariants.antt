use Rattle.std.proofs.Common.{take, [], ◌∷◌}
use Rattle.dl_base.specs.Clash.{HasClash}
use Rattle.dl_base.specs.declared.statements.Fact.{Fact}
use Rattle.tbox_closure.proofs.LoopLaws.{None}
use Rattle.read_patterns.proofs.meeting.clashes_with.Given as goal

abbrev pub invariant-loop-inserted : goal.invariant-loop-inserted
invariant-loop-inserted l = None (λ (i : Fact). HasClash l.conflicts.axioms (l.fact ∷ i ∷ [])) (take l.inserted-index l.inserts)
