-- Which predicates are declared functional.
use Rattle.std.specs.Prelude.{◌≡◌, ◌↔◌, ℕ, ◌<◌, List, Bool, true, false, Contains, slice_index_or}
use Rattle.dl_base.specs.declared.axioms.Axiom.{Axiom}
use Rattle.dl_base.specs.declared.axioms.Axiom.TheVariants.{FunctionalRole, FunctionalAttr}
use Rattle.dl_base.specs.declared.terms.Term.{Term}
use Rattle.dl_base.specs.declared.terms.RoleSide.TheVariants.{Direct, Inverse}
use Rattle.dl_base.specs.Ontologies.{Theory}
use Rattle.conflict_rules.specs.declared.functional.Functionality.{Functionality}
use Rattle.conflict_rules.specs.declared.functional.Functionality.TheVariants as form

-- the axiom that declares it of the term
abbrev pub declared_of : Functionality → Term → Axiom
declared_of form.OfSubjects t = FunctionalRole (Direct t)
declared_of form.OfObjects t = FunctionalRole (Inverse t)
declared_of form.OfAttrs t = FunctionalAttr t

abbrev pub IsSet : List Bool → ℕ → Type 0
IsSet marks k = slice_index_or marks k false ≡ true

-- the marks are those of the declared terms
abbrev pub AreFunctional : Functionality → List Axiom → List Bool → Type 0
AreFunctional kind axioms marks = (t : Term) → IsSet marks t.0 ↔ Contains axioms (declared_of kind t)

-- the declared terms are below the number
abbrev pub AreFunctionalBelow : Functionality → List Axiom → ℕ → Type 0
AreFunctionalBelow kind axioms n = (t : Term) → Contains axioms (declared_of kind t) → t.0 < n

pub record IsCompiled (theory : Theory) (subjects objects attrs : List Bool) : Type 0 where
  pub of_subjects : AreFunctional form.OfSubjects theory.axioms subjects
  pub of_objects : AreFunctional form.OfObjects theory.axioms objects
  pub of_attrs : AreFunctional form.OfAttrs theory.axioms attrs
