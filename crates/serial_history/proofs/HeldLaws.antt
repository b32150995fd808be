-- Facts that are held or not.
use mathlib.Core.Bool.{beq}
use Rattle.std.proofs.Common.{◌≡◌, ◌↔◌, Bool, IsTrue, true, false, List, refl, sym}
use Rattle.std.specs.Prelude.{Contains}
use Rattle.std.proofs.lemmas.Bool.{false≢true}
use Rattle.dl_base.specs.declared.statements.Fact.{Fact}
use Rattle.serial_history.specs.Changing.{IsHeldAs}

module _ (version : List Fact) (f : Fact) where
  pub as_said : (wanted said : Bool) → (IsTrue said ↔ Contains version f) → beq said wanted ≡ true → IsHeldAs wanted version f
  as_said true true h e = h.0 refl
  as_said true false h e = absurd (false≢true e)
  as_said false true h e = absurd (false≢true e)
  as_said false false h e = λ m. false≢true (h.1 m)

  pub not_as_said : (wanted said : Bool) → (IsTrue said ↔ Contains version f) → beq said wanted ≡ false → ¬ IsHeldAs wanted version f
  not_as_said true true h e = λ m. false≢true (sym e)
  not_as_said true false h e = λ m. false≢true (h.1 m)
  not_as_said false true h e = λ k. k (h.0 refl)
  not_as_said false false h e = λ k. false≢true (sym e)
