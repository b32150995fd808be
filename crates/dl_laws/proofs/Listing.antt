-- What a fact entails, as a list.
use Rattle.std.proofs.Common.{◌≡◌, ℕ, List, [], ◌∷◌, ◌++◌, refl, sym, ◌∙◌, subst, inl, inr}
use Rattle.std.specs.Prelude.{Contains}
use Rattle.dl_base.specs.declared.axioms.Axiom.{Axiom}
use Rattle.dl_base.specs.declared.axioms.Axiom.TheVariants.{ConceptIn, RoleIn, AttrIn}
use Rattle.dl_base.specs.declared.names.Value.{Value}
use Rattle.dl_base.specs.declared.terms.Term.{Term}
use Rattle.dl_base.specs.declared.terms.RoleSide.{RoleSide}
use Rattle.dl_base.specs.declared.terms.RoleSide.TheVariants.{Direct, Inverse}
use Rattle.dl_base.specs.declared.terms.Basic.{Basic}
use Rattle.dl_base.specs.declared.terms.Basic.TheVariants as basic
use Rattle.dl_base.specs.declared.statements.Fact.{Fact}
use Rattle.dl_base.specs.declared.statements.Fact.TheVariants as fact
use Rattle.dl_base.specs.Derivation.{RoleStep, inverse, row_of, InClosure}
use Rattle.dl_base.specs.Clash as c
use Rattle.dl_base.specs.Clash.{RoleReaches, AttrReaches, HasClash}
use Rattle.dl_base.specs.Reach as reach
use Rattle.dl_base.specs.Reach.{ConceptStep, ConceptReaches}
use Rattle.dl_base.proofs.Members.{here, among}
use Rattle.std.specs.List.{flat_map}
use Rattle.std.proofs.lemmas.List.Elements.{Contains-append_left, Contains-append_right}
use Rattle.dl_base.specs.Updates.{ListsClosure}
use Rattle.dl_base.proofs.Choosing.{keep, from_keep, into_keep}
use Rattle.dl_base.proofs.ClosureLaws.{from_one, derived_more}
use Rattle.dl_laws.specs.Rows.{Start, OfConcept, OfRole, OfAttr, subject, concept, starts}
use Rattle.dl_laws.proofs.Saying.{Says}
use Rattle.dl_laws.proofs.EdgeLaws.{in_flat_map, out_of_flat_map}
use Rattle.dl_laws.proofs.ClashTelling.{told_entails, entailed_is}

abbrev term_of : RoleSide → Term
term_of (Direct p) = p
term_of (Inverse p) = p

-- the fact that the start row says by itself
abbrev own : Start → List Fact
own (OfConcept a (basic.Class k)) = fact.Class k a ∷ []
own (OfConcept a (basic.Exists q)) = []
own (OfConcept a (basic.Domain u)) = []
own (OfRole a b q) = fact.Role (term_of q) a b ∷ []
own (OfAttr a v u) = fact.Attr u a v ∷ []

-- the facts that the axiom may carry it over to
abbrev class_fact : List ℕ → Basic → List Fact
class_fact a (basic.Class k) = fact.Class k a ∷ []
class_fact a (basic.Exists q) = []
class_fact a (basic.Domain u) = []

abbrev classes_by : List ℕ → Axiom → List Fact
classes_by a (ConceptIn b d) = class_fact a d
classes_by a other = []

abbrev roles_by : List ℕ → List ℕ → Axiom → List Fact
roles_by a b (RoleIn q r) = fact.Role (term_of r) a b ∷ []
roles_by a b other = []

abbrev attrs_by : List ℕ → Value → Axiom → List Fact
attrs_by a v (AttrIn u w) = fact.Attr w a v ∷ []
attrs_by a v other = []

module _ (axioms : List Axiom) where
  abbrev others : Start → List Fact
  others (OfConcept a b) = []
  others (OfRole a b q) = flat_map (roles_by a b) axioms
  others (OfAttr a v u) = flat_map (attrs_by a v) axioms

  abbrev candidates : Start → List Fact
  candidates s = own s ++ (flat_map (classes_by (subject s)) axioms ++ others s)

  in_own : (s : Start) (g : Fact) → Contains (own s) g → Contains (candidates s) g
  in_own s g m = Contains-append_left (own s) (flat_map (classes_by (subject s)) axioms ++ others s) g m

  in_classes : (s : Start) (g : Fact) → Contains (flat_map (classes_by (subject s)) axioms) g → Contains (candidates s) g
  in_classes s g m = Contains-append_right (own s) (flat_map (classes_by (subject s)) axioms ++ others s) g (Contains-append_left (flat_map (classes_by (subject s)) axioms) (others s) g m)

  in_others : (s : Start) (g : Fact) → Contains (others s) g → Contains (candidates s) g
  in_others s g m = Contains-append_right (own s) (flat_map (classes_by (subject s)) axioms ++ others s) g (Contains-append_right (flat_map (classes_by (subject s)) axioms) (others s) g m)

  own_class : (s : Start) (k : Term) → concept s ≡ basic.Class k → Contains (own s) (fact.Class k (subject s))
  own_class (OfConcept a (basic.Class t)) k i = let same : t ≡ k = cc in subst (λ (z : Term). Contains (fact.Class t a ∷ []) (fact.Class z a)) same (here (fact.Class t a) [])
  own_class (OfConcept a (basic.Exists q)) k i = cc
  own_class (OfConcept a (basic.Domain u)) k i = cc
  own_class (OfRole a b q) k i = cc
  own_class (OfAttr a v u) k i = cc

  step_class : (s : Start) (k : Term) (b d : Basic) → d ≡ basic.Class k → ConceptStep axioms b d → Contains (candidates s) (fact.Class k (subject s))
  step_class s k b d i (reach.concept v w m) = in_classes s (fact.Class k (subject s)) (in_flat_map (classes_by (subject s)) axioms (ConceptIn b (basic.Class k)) (fact.Class k (subject s)) (subst (λ (z : Basic). Contains axioms (ConceptIn b z)) i m) (here (fact.Class k (subject s)) []))
  step_class s k b d i (reach.role q r m) = cc
  step_class s k b d i (reach.attr u w m) = cc
  step_class s k b d i (reach.some_in v w q m) = cc

  class_in : (s : Start) (k : Term) (b d : Basic) → b ≡ concept s → d ≡ basic.Class k → ConceptReaches axioms b d → Contains (candidates s) (fact.Class k (subject s))
  class_in s k b d i j (reach.itself z) = in_own s (fact.Class k (subject s)) (own_class s k (sym i ∙ j))
  class_in s k b d i j (reach.further x w y h t) = step_class s k w d j t

  role_step_in : (a b : List ℕ) (w : RoleSide) (p : Term) (q : RoleSide) → RoleStep axioms w (Direct p) → Contains (candidates (OfRole a b q)) (fact.Role p a b)
  role_step_in a b w p q (inl m) = in_others (OfRole a b q) (fact.Role p a b) (in_flat_map (roles_by a b) axioms (RoleIn w (Direct p)) (fact.Role p a b) m (here (fact.Role p a b) []))
  role_step_in a b w p q (inr m) = in_others (OfRole a b q) (fact.Role p a b) (in_flat_map (roles_by a b) axioms (RoleIn (inverse w) (Inverse p)) (fact.Role p a b) m (here (fact.Role p a b) []))

  role_in : (a b : List ℕ) (q r : RoleSide) (p : Term) → r ≡ Direct p → RoleReaches axioms q r → Contains (candidates (OfRole a b q)) (fact.Role p a b)
  role_in a b q r p i (c.itself z) = in_own (OfRole a b q) (fact.Role p a b) (subst (λ (z : RoleSide). Contains (own (OfRole a b q)) (fact.Role (term_of z) a b)) i (here (fact.Role (term_of q) a b) []))
  role_in a b q r p i (c.further x w y h t) = role_step_in a b w p q (subst (RoleStep axioms w) i t)

  attr_in : (a : List ℕ) (v : Value) (u w : Term) → AttrReaches axioms u w → Contains (candidates (OfAttr a v u)) (fact.Attr w a v)
  attr_in a v u w (c.itself z) = in_own (OfAttr a v u) (fact.Attr u a v) (here (fact.Attr u a v) [])
  attr_in a v u w (c.further x y z h m) = in_others (OfAttr a v u) (fact.Attr w a v) (in_flat_map (attrs_by a v) axioms (AttrIn y w) (fact.Attr w a v) m (here (fact.Attr w a v) []))

  said_in : (s : Start) (g : Fact) → Says axioms s (row_of g) → Contains (candidates s) g
  said_in s (fact.Class k x) h = subst (λ (z : List ℕ). Contains (candidates s) (fact.Class k z)) (sym h.0) (class_in s k (concept s) (basic.Class k) refl refl h.1)
  said_in s (fact.Role p x y) h = subst (λ z. Contains (candidates z) (fact.Role p x y)) (sym h.1) (role_in x y h.0 (Direct p) p refl h.2)
  said_in s (fact.Attr w x v) h = subst (λ z. Contains (candidates z) (fact.Attr w x v)) (sym h.1) (attr_in x v h.0 w h.2)

  module _ (f : Fact) where
    abbrev all_candidates : List Fact
    all_candidates = flat_map candidates (starts f)

    -- the closure of one fact
    abbrev pub entailed : List Fact
    entailed = keep (InClosure axioms (f ∷ [])) all_candidates (λ g m. told_entails axioms f g)

    pub lists_entailed : ListsClosure axioms (f ∷ []) entailed
    lists_entailed g = (
      (λ m. (from_keep (InClosure axioms (f ∷ [])) all_candidates (λ x k. told_entails axioms f x) g m).1),
      λ h. let p = (entailed_is axioms f g).1 h in into_keep (InClosure axioms (f ∷ [])) all_candidates (λ x k. told_entails axioms f x) g (in_flat_map candidates (starts f) p.0 g p.1 (said_in p.0 g p.2)) h,
    )

  -- the closure of facts
  abbrev pub closure : List Fact → List Fact
  closure facts = flat_map entailed facts

  pub lists_closure : (facts : List Fact) → ListsClosure axioms facts (closure facts)
  lists_closure facts g = (
    (λ m. let o = out_of_flat_map entailed facts g m in derived_more axioms (o.0 ∷ []) facts (among o.0 facts o.1) (row_of g) ((lists_entailed o.0 g).0 o.2)),
    λ h. let p = from_one axioms facts (row_of g) h in in_flat_map entailed facts p.0 g p.1 ((lists_entailed p.0 g).1 p.2),
  )
