-- What a step answers.
use Rattle.std.specs.Prelude.{◌≡◌, ◌↔◌, ℕ, List, Some, slice_get, ◌∷◌, [], Contains}
use Rattle.dl_base.specs.declared.axioms.Axiom.{Axiom}
use Rattle.dl_base.specs.declared.statements.Fact.{Fact}
use Rattle.dl_base.specs.Clash.{IsConsistent}
use Rattle.dl_base.specs.Derivation.{InClosure}
use Rattle.dl_base.specs.Updates.{IsWellFormed, Lists, IsRemoved, IsPut, IsStored, IsLost, Updates}
use Rattle.update_engine.specs.declared.answers.Step.{Step}
use Rattle.update_engine.specs.declared.answers.StepRefusal.{StepRefusal}
use Rattle.update_engine.specs.declared.answers.StepRefusal.TheVariants as refusal
use Rattle.update_engine.specs.Judging.{IsNamed}

-- f is entailed by the removed fact at k
abbrev pub FollowsFrom : List Axiom → List Fact → ℕ → Fact → Type 0
FollowsFrom axioms removed k f = (g : Fact) × (slice_get removed k ≡ Some g) × InClosure axioms (g ∷ []) f

-- the new list has what is stored after the request, and nothing else
abbrev pub AreStored : List Axiom → List Fact → List Fact → List Fact → List Fact → Type 0
AreStored axioms old inserts deletes new = (f : Fact) → Contains new f ↔ IsStored axioms old inserts deletes f

-- what a well-formed request removes, puts, adds and loses; and what is stored afterwards updates the old facts and is consistent
pub record IsStep (axioms : List Axiom) (old inserts deletes : List Fact) (step : Step) : Type 0 where
  pub well_formed : IsWellFormed axioms inserts deletes
  pub removed : Lists (IsRemoved axioms old inserts deletes) step.removed.items
  pub put : Lists (IsPut axioms old inserts deletes) step.put.items
  pub added : Lists (λ f. IsStored axioms old inserts deletes f × ¬ Contains old f) step.added.items
  pub lost : (new : List Fact) → AreStored axioms old inserts deletes new → Lists (IsLost axioms old new) step.lost.items
  pub update : (new : List Fact) → AreStored axioms old inserts deletes new → Updates axioms old inserts deletes new
  pub consistent : (new : List Fact) → AreStored axioms old inserts deletes new → IsConsistent axioms new

-- the request is ill-formed and named so, or it is well-formed and memory was wanting
abbrev pub IsRefusal : List Axiom → List Fact → List Fact → StepRefusal → Type 0
IsRefusal axioms inserts deletes (refusal.IllFormed name) = IsNamed axioms inserts deletes name
IsRefusal axioms inserts deletes refusal.OutOfMemory = IsWellFormed axioms inserts deletes
