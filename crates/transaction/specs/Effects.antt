-- What a change makes of the stored facts, and of the facts that were put and taken.
use Rattle.std.specs.Prelude.{◌≡◌, ◌⊎◌, List, Contains}
use Rattle.dl_base.specs.Clash.{IsConsistent}
use Rattle.dl_base.specs.declared.axioms.Axiom.{Axiom}
use Rattle.dl_base.specs.declared.statements.Fact.{Fact}
use Rattle.dl_base.specs.Updates.{Lists, IsWellFormed, IsStored, IsLost, IsPut, IsRemoved}
use Rattle.fact_delta.specs.Deltas.{Over, IsOver, IsApplied, standing, moved_over}
use Rattle.update_engine.specs.declared.answers.Step.{Step}
use Rattle.transaction.specs.declared.effects.Effect.{Effect}

-- f was there and doesn't go, or it comes
abbrev pub IsReplaced : List Fact → (Fact → Type 0) → (Fact → Type 0) → Fact → Type 0
IsReplaced held Goes Comes f = (Contains held f × ¬ Goes f) ⊎ Comes f

-- the well-formed change makes these facts of those that stood and those that were put and taken, and loses these
pub record IsEffect (axioms : List Axiom) (stood : Over) (put taken inserts deletes : List Fact) (effect : Effect) : Type 0 where
  pub well : IsWellFormed axioms inserts deletes
  pub over : IsOver (moved_over stood effect.moved)
  pub stored : Lists (IsStored axioms (standing stood) inserts deletes) (standing (moved_over stood effect.moved))
  pub lost : Lists (IsLost axioms (standing stood) (standing (moved_over stood effect.moved))) effect.lost.items
  pub put_now : Lists (IsReplaced put (IsRemoved axioms (standing stood) inserts deletes) (IsPut axioms (standing stood) inserts deletes)) effect.put.items
  pub taken_now : Lists (IsReplaced taken (IsPut axioms (standing stood) inserts deletes) (IsRemoved axioms (standing stood) inserts deletes)) effect.taken.items
  pub consistent : IsConsistent axioms (standing (moved_over stood effect.moved))

-- the step makes these facts of those that stood and those that were put and taken, and loses these
pub record IsMade (stood : Over) (put taken : List Fact) (step : Step) (effect : Effect) : Type 0 where
  pub over : IsOver (moved_over stood effect.moved)
  pub applied : IsApplied (standing stood) step.removed.items step.added.items (standing (moved_over stood effect.moved))
  pub put_now : Lists (IsReplaced put (Contains step.removed.items) (Contains step.put.items)) effect.put.items
  pub taken_now : Lists (IsReplaced taken (Contains step.put.items) (Contains step.removed.items)) effect.taken.items
  pub lost : effect.lost.items ≡ step.lost.items
