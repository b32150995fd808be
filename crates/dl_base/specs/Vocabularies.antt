-- How an ontology is made of its parts, and why it is refused.
use Rattle.std.specs.Prelude.{◌≡◌, ◌↔◌, ℕ, ◌<◌, ◌≤◌, ◌+◌, List, [], All, Contains, Option, Some, None, Vec, length, map, take, slice_get}
use Rattle.dl_base.specs.declared.axioms.Axiom.{Axiom}
use Rattle.dl_base.specs.declared.axioms.Axiom.TheVariants.{RoleIn, AttrIn, FunctionalRole, FunctionalAttr, ConceptSome}
use Rattle.dl_base.specs.declared.refusals.OntologyRefusal.{OntologyRefusal}
use Rattle.dl_base.specs.declared.refusals.OntologyRefusal.TheVariants as refusal
use Rattle.dl_base.specs.declared.restriction.Predicate.{Predicate}
use Rattle.dl_base.specs.declared.restriction.Predicate.TheVariants as predicate
use Rattle.dl_base.specs.declared.restriction.Restriction.{Restriction}
use Rattle.dl_base.specs.declared.terms.Kind.{Kind}
use Rattle.dl_base.specs.declared.terms.RoleSide.{RoleSide}
use Rattle.dl_base.specs.declared.terms.RoleSide.TheVariants.{Direct, Inverse}
use Rattle.dl_base.specs.Ontologies.{Theory, KnowsAxiom, IsKnown, AreNamedOnce}
use Rattle.dl_base.specs.Validity.{IsValid}

-- the names of the terms
abbrev pub names_of : List (List ℕ × Kind) → List (List ℕ)
names_of terms = map (λ (t : List ℕ × Kind). t.0) terms

-- the keys are the names of the terms, in their order
abbrev pub AreNumbered : {A : Type 0} → List (List ℕ × Kind) → List (Vec ℕ A) → Type 0
AreNumbered {A} terms keys = map (λ (k : Vec ℕ A). k.items) keys ≡ names_of terms

-- the terms with no axioms
abbrev pub bare : List (List ℕ × Kind) → Theory
bare terms = record { terms = terms; axioms = [] }

-- the term at this place is the first whose name stood before
pub record IsFirstRepeat (terms : List (List ℕ × Kind)) (i : ℕ) : Type 0 where
  pub here : (j : ℕ) × (name : List ℕ) × (j < i) × (slice_get (names_of terms) j ≡ Some name) × (slice_get (names_of terms) i ≡ Some name)
  pub least : AreNamedOnce (bare (take i terms))

-- the axiom at this place is the first that names what is no term of the kind that its place needs
pub record IsFirstUnknown (theory : Theory) (i : ℕ) : Type 0 where
  pub here : (a : Axiom) × (slice_get theory.axioms i ≡ Some a) × ¬ KnowsAxiom theory a
  pub least : All (KnowsAxiom theory) (take i theory.axioms)

-- the axiom at this place is the first with which something functional is specialised
pub record IsFirstSpecialised (axioms : List Axiom) (i : ℕ) : Type 0 where
  pub within : i < length axioms
  pub here : ¬ IsValid (take (i + 1) axioms)
  pub least : IsValid (take i axioms)

-- why no ontology is made of these parts: the first of these; of memory nothing is told
abbrev pub IsRefused : Theory → OntologyRefusal → Type 0
IsRefused theory refusal.TooManyTerms = 4000 < length theory.terms
IsRefused theory (refusal.TwoKinds i) = (length theory.terms ≤ 4000) × IsFirstRepeat theory.terms i
IsRefused theory (refusal.BadAxiom i) = (length theory.terms ≤ 4000) × AreNamedOnce theory × IsFirstUnknown theory i
IsRefused theory (refusal.FunctionalSpecialised i) = (length theory.terms ≤ 4000) × AreNamedOnce theory × IsKnown theory × IsFirstSpecialised theory.axioms i
IsRefused theory refusal.OutOfMemory = Unit {0}

-- a name stands twice, and this is said of the first place; of memory nothing is told
abbrev pub IsRepeated : List (List ℕ × Kind) → OntologyRefusal → Type 0
IsRepeated terms (refusal.TwoKinds i) = IsFirstRepeat terms i
IsRepeated terms refusal.OutOfMemory = Unit {0}
IsRepeated terms other = ⊥

-- no term has the name
abbrev pub HasNoTerm : List (List ℕ × Kind) → List ℕ → Type 0
HasNoTerm terms name = (i : ℕ) (k : Kind) → ¬ (slice_get terms i ≡ Some (name, k))

-- the role of this side, as a predicate
abbrev pub role_of : RoleSide → Predicate
role_of (Direct p) = predicate.Role p
role_of (Inverse p) = predicate.Role p

-- the role or attribute that the axiom declares functional
abbrev pub functional_by : Axiom → Option Predicate
functional_by (FunctionalRole q) = Some (role_of q)
functional_by (FunctionalAttr u) = Some (predicate.Attr u)
functional_by other = None

-- the role or attribute that the axiom specialises
abbrev pub specialised_by : Axiom → Option Predicate
specialised_by (RoleIn q r) = Some (role_of r)
specialised_by (AttrIn u w) = Some (predicate.Attr w)
specialised_by (ConceptSome b q c) = Some (role_of q)
specialised_by other = None

-- one of the axioms does so to the predicate
abbrev pub IsDone : (Axiom → Option Predicate) → List Axiom → Predicate → Type 0
IsDone by axioms p = (a : Axiom) × Contains axioms a × (by a ≡ Some p)

-- what these axioms declare functional, and what they specialise, is noted
pub record Notes (restriction : Restriction) (axioms : List Axiom) : Type 0 where
  pub functionals : (p : Predicate) → Contains restriction.functionals.keys p ↔ IsDone functional_by axioms p
  pub specials : (p : Predicate) → Contains restriction.specials.keys p ↔ IsDone specialised_by axioms p
