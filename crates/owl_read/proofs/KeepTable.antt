-- What the table gives is over the terms that are read.
use Rattle.std.proofs.Common.{ℕ, Bool, true, false, cond, List, [], ◌∷◌, ◌++◌}
use Rattle.std.specs.Prelude.{All}
use Rattle.std.specs.List.{flat_map}
use Rattle.std.proofs.lemmas.List.Elements.{All-nil, All-cons, All-head, All-tail, All-weaker, All-append}
use Rattle.dl_base.specs.declared.axioms.Axiom.{Axiom}
use Rattle.dl_base.specs.declared.axioms.Axiom.TheVariants.{ConceptIn, ConceptApart, RoleIn, RoleApart, AttrIn, AttrApart, Range, FunctionalRole, FunctionalAttr, ConceptSome}
use Rattle.dl_base.specs.declared.statements.Fact.{Fact}
use Rattle.dl_base.specs.declared.statements.Fact.TheVariants as fact
use Rattle.dl_base.specs.declared.terms.Basic.{Basic}
use Rattle.dl_base.specs.declared.terms.Kind.TheVariants as kinds
use Rattle.dl_base.specs.declared.terms.RoleSide.{RoleSide}
use Rattle.dl_base.specs.declared.terms.RoleSide.TheVariants.{Direct, Inverse}
use Rattle.dl_base.specs.declared.terms.Term.{Term}
use Rattle.dl_base.specs.Derivation.{inverse}
use Rattle.dl_base.specs.Ontologies.{Knows, KnowsAxiom}
use Rattle.dl_base.specs.Vocabularies.{bare}
use Rattle.owl_read.specs.declared.builtins.Builtin.TheVariants as builtins
use Rattle.owl_read.specs.declared.sides.Part.{Part}
use Rattle.owl_read.specs.declared.sides.Part.TheVariants.{Within, Related, Outside, Empty}
use Rattle.owl_read.specs.declared.sides.Pass.{Pass}
use Rattle.owl_read.specs.declared.sides.Pass.TheVariants as passes
use Rattle.owl_read.specs.declared.sides.Side.{Side}
use Rattle.owl_read.specs.declared.sides.Side.TheVariants.{Nothing, Concept, Role, Attr}
use Rattle.owl_read.specs.Builtins.{is_builtin}
use Rattle.owl_read.specs.Scopes.{Naming}
use Rattle.owl_read.specs.Table.{same_term, same_role, included, apart, ring_from, ring, all_apart, given, limited, subclass, ranged}
use Rattle.owl_read.proofs.KeepLaws.{Grows, term_stays, OfKind}
use Rattle.owl_read.proofs.KeepPlaces.{KnowsRoleIn, KnowsBasic, KnowsSide, KnowsPart, KnowsParts, role_stays, basic_stays}

abbrev pub AxiomIn : Naming → Axiom → Type 0
AxiomIn s a = KnowsAxiom (bare s.terms) a

abbrev pub AxiomsIn : Naming → List Axiom → Type 0
AxiomsIn s axioms = All (AxiomIn s) axioms

abbrev pub FactIn : Naming → Fact → Type 0
FactIn s f = Knows (bare s.terms) f

module _ (s t : Naming) (g : Grows s t) where
  axiom_stays : (a : Axiom) → AxiomIn s a → AxiomIn t a
  axiom_stays (ConceptIn b c) h = (basic_stays s t g b h.0, basic_stays s t g c h.1)
  axiom_stays (ConceptApart b c) h = (basic_stays s t g b h.0, basic_stays s t g c h.1)
  axiom_stays (RoleIn q r) h = (role_stays s t g q h.0, role_stays s t g r h.1)
  axiom_stays (RoleApart q r) h = (role_stays s t g q h.0, role_stays s t g r h.1)
  axiom_stays (AttrIn u w) h = (term_stays s t g u kinds.Attr h.0, term_stays s t g w kinds.Attr h.1)
  axiom_stays (AttrApart u w) h = (term_stays s t g u kinds.Attr h.0, term_stays s t g w kinds.Attr h.1)
  axiom_stays (Range u d) h = term_stays s t g u kinds.Attr h
  axiom_stays (FunctionalRole q) h = role_stays s t g q h
  axiom_stays (FunctionalAttr u) h = term_stays s t g u kinds.Attr h
  axiom_stays (ConceptSome b q c) h = (basic_stays s t g b h.0, role_stays s t g q h.1, basic_stays s t g c h.2)

  pub axioms_stay : (axioms : List Axiom) → AxiomsIn s axioms → AxiomsIn t axioms
  axioms_stay axioms h = All-weaker (AxiomIn s) (AxiomIn t) axiom_stays axioms h

  fact_stays : (f : Fact) → FactIn s f → FactIn t f
  fact_stays (fact.Class c a) h = term_stays s t g c kinds.Class h
  fact_stays (fact.Role p a b) h = term_stays s t g p kinds.Role h
  fact_stays (fact.Attr u a v) h = term_stays s t g u kinds.Attr h

  pub facts_stay : (facts : List Fact) → All (FactIn s) facts → All (FactIn t) facts
  facts_stay facts h = All-weaker (FactIn s) (FactIn t) fact_stays facts h

module _ (s : Naming) where
  pub no_axioms : AxiomsIn s []
  no_axioms = All-nil (AxiomIn s)

  pub one_axiom : (a : Axiom) → AxiomIn s a → AxiomsIn s (a ∷ [])
  one_axiom a h = All-cons (AxiomIn s) a [] h no_axioms

  unless : (b : Bool) (a : Axiom) → AxiomIn s a → AxiomsIn s (cond b [] (a ∷ []))
  unless true a h = no_axioms
  unless false a h = one_axiom a h

  pub inverse_known : (q : RoleSide) → KnowsRoleIn s q → KnowsRoleIn s (inverse q)
  inverse_known (Direct p) h = h
  inverse_known (Inverse p) h = h

  pub included_known : (x y : Side) → KnowsSide s x → KnowsSide s y → AxiomsIn s (included x y)
  included_known (Concept b) (Concept c) h k = one_axiom (ConceptIn b c) (h, k)
  included_known (Concept b) Nothing h k = one_axiom (ConceptApart b b) (h, h)
  included_known (Concept b) (Role r) h k = no_axioms
  included_known (Concept b) (Attr w) h k = no_axioms
  included_known (Role q) (Role r) h k = unless (same_role q r) (RoleIn q r) (h, k)
  included_known (Role q) Nothing h k = no_axioms
  included_known (Role q) (Concept c) h k = no_axioms
  included_known (Role q) (Attr w) h k = no_axioms
  included_known (Attr u) (Attr w) h k = unless (same_term u w) (AttrIn u w) (h, k)
  included_known (Attr u) Nothing h k = no_axioms
  included_known (Attr u) (Concept c) h k = no_axioms
  included_known (Attr u) (Role r) h k = no_axioms
  included_known Nothing y h k = no_axioms

  apart_known : (x y : Side) → KnowsSide s x → KnowsSide s y → AxiomsIn s (apart x y)
  apart_known (Concept b) (Concept c) h k = one_axiom (ConceptApart b c) (h, k)
  apart_known (Concept b) Nothing h k = no_axioms
  apart_known (Concept b) (Role r) h k = no_axioms
  apart_known (Concept b) (Attr w) h k = no_axioms
  apart_known (Role q) (Role r) h k = one_axiom (RoleApart q r) (h, k)
  apart_known (Role q) Nothing h k = no_axioms
  apart_known (Role q) (Concept c) h k = no_axioms
  apart_known (Role q) (Attr w) h k = no_axioms
  apart_known (Attr u) (Attr w) h k = one_axiom (AttrApart u w) (h, k)
  apart_known (Attr u) Nothing h k = no_axioms
  apart_known (Attr u) (Concept c) h k = no_axioms
  apart_known (Attr u) (Role r) h k = no_axioms
  apart_known Nothing y h k = no_axioms

  pub both : (xs ys : List Axiom) → AxiomsIn s xs → AxiomsIn s ys → AxiomsIn s (xs ++ ys)
  both xs ys h k = All-append (AxiomIn s) xs ys h k

  ring_from_known : (first one : Side) (rest : List Side) → KnowsSide s first → KnowsSide s one → All (KnowsSide s) rest → AxiomsIn s (ring_from first one rest)
  ring_from_known first one [] f h k = included_known one first h f
  ring_from_known first one (two ∷ rest) f h k =
      let t = All-head (KnowsSide s) two rest k in
      both (included one two) (ring_from first two rest) (included_known one two h t) (ring_from_known first two rest f t (All-tail (KnowsSide s) two rest k))

  pub ring_known : (xs : List Side) → All (KnowsSide s) xs → AxiomsIn s (ring xs)
  ring_known [] h = no_axioms
  ring_known (x ∷ xs) h = ring_from_known x x xs (All-head (KnowsSide s) x xs h) (All-head (KnowsSide s) x xs h) (All-tail (KnowsSide s) x xs h)

  flat_known : {X : Type 0} (P : X → Type 0) (f : X → List Axiom) → ((x : X) → P x → AxiomsIn s (f x)) → (xs : List X) → All P xs → AxiomsIn s (flat_map f xs)
  flat_known P f k [] h = no_axioms
  flat_known P f k (x ∷ xs) h = both (f x) (flat_map f xs) (k x (All-head P x xs h)) (flat_known P f k xs (All-tail P x xs h))

  pub apart_all_known : (xs : List Side) → All (KnowsSide s) xs → AxiomsIn s (all_apart xs)
  apart_all_known [] h = no_axioms
  apart_all_known (x ∷ xs) h =
      let t = All-tail (KnowsSide s) x xs h in
      both (flat_map (apart x) xs) (all_apart xs) (flat_known (KnowsSide s) (apart x) (λ y k. apart_known x y (All-head (KnowsSide s) x xs h) k) xs t) (apart_all_known xs t)

  given_known : (pass : Pass) (b : Basic) (part : Part) → KnowsBasic s b → KnowsPart s part → AxiomsIn s (given pass b part)
  given_known passes.Within b (Within c) h k = one_axiom (ConceptIn b c) (h, k)
  given_known passes.Within b (Related q c) h k = no_axioms
  given_known passes.Within b (Outside c) h k = no_axioms
  given_known passes.Within b Empty h k = no_axioms
  given_known passes.Related b (Within c) h k = no_axioms
  given_known passes.Related b (Related q c) h k = one_axiom (ConceptSome b q c) (h, k.0, k.1)
  given_known passes.Related b (Outside c) h k = no_axioms
  given_known passes.Related b Empty h k = no_axioms
  given_known passes.Outside b (Within c) h k = no_axioms
  given_known passes.Outside b (Related q c) h k = no_axioms
  given_known passes.Outside b (Outside c) h k = one_axiom (ConceptApart b c) (h, k)
  given_known passes.Outside b Empty h k = no_axioms
  given_known passes.Empty b (Within c) h k = no_axioms
  given_known passes.Empty b (Related q c) h k = no_axioms
  given_known passes.Empty b (Outside c) h k = no_axioms
  given_known passes.Empty b Empty h k = one_axiom (ConceptApart b b) (h, h)

  pass_known : (pass : Pass) (b : Basic) (parts : List Part) → KnowsBasic s b → KnowsParts s parts → AxiomsIn s (flat_map (given pass b) parts)
  pass_known pass b parts h k = flat_known (KnowsPart s) (given pass b) (λ p j. given_known pass b p h j) parts k

  pub limited_known : (b : Basic) (parts : List Part) → KnowsBasic s b → KnowsParts s parts → AxiomsIn s (limited b parts)
  limited_known b parts h k =
      both _ _ (both _ _ (both _ _ (pass_known passes.Within b parts h k) (pass_known passes.Related b parts h k)) (pass_known passes.Outside b parts h k)) (pass_known passes.Empty b parts h k)

  pub subclass_known : (x : Side) (parts : List Part) → KnowsSide s x → KnowsParts s parts → AxiomsIn s (subclass x parts)
  subclass_known (Concept b) parts h k = limited_known b parts h k
  subclass_known Nothing parts h k = no_axioms
  subclass_known (Role q) parts h k = no_axioms
  subclass_known (Attr u) parts h k = no_axioms

  pub ranged_known : (u : Term) (d : List ℕ) → OfKind kinds.Attr s u → AxiomsIn s (ranged u d)
  ranged_known u d h = unless (is_builtin builtins.Literal d) (Range u d) h
