-- The closure of one role fact and of one attribute fact.
use Rattle.std.proofs.Common.{◌≡◌, ℕ, List, [], ◌∷◌, sym, subst, inl, inr, ◌⊎◌, ⊎_elim}
use Rattle.std.specs.Prelude.{◌↔◌}
use Rattle.dl_base.specs.declared.axioms.Axiom.{Axiom}
use Rattle.dl_base.specs.declared.names.Value.{Value}
use Rattle.dl_base.specs.declared.terms.Term.{Term}
use Rattle.dl_base.specs.declared.terms.RoleSide.{RoleSide}
use Rattle.dl_base.specs.declared.terms.RoleSide.TheVariants.{Direct, Inverse}
use Rattle.dl_base.specs.declared.terms.Basic.{Basic}
use Rattle.dl_base.specs.declared.terms.Basic.TheVariants as basic
use Rattle.dl_base.specs.declared.statements.Fact.{Fact}
use Rattle.dl_base.specs.declared.statements.Fact.TheVariants as fact
use Rattle.dl_base.specs.Clash as clash
use Rattle.dl_base.specs.Clash.{RoleReaches, AttrReaches}
use Rattle.dl_base.specs.Derivation as d
use Rattle.dl_base.specs.Derivation.{Row, Thing, Named, Witness, WitnessIn, HasConcept, HasRole, HasAttr, IsWitnessed, IsWitnessedIn, IsValued, Gives, Carries, Derived}
use Rattle.dl_base.specs.Reach as reach
use Rattle.dl_base.specs.Reach.{ConceptReaches, ConceptStep}
use Rattle.dl_base.proofs.Members.{here, nowhere, cons_cases}
use Rattle.dl_base.proofs.SingleFacts.{concept_reached}

module _ (axioms : List Axiom) where
  some_reached : (q r : RoleSide) → RoleReaches axioms q r → ConceptReaches axioms (basic.Exists q) (basic.Exists r)
  some_reached q r (clash.itself s) = reach.itself (basic.Exists s)
  some_reached q r (clash.further s t u h k) = reach.further (basic.Exists q) (basic.Exists t) (basic.Exists r) (some_reached q t h) (reach.role t r k)

  role_reached : (facts : List Fact) (x y : List ℕ) (q r : RoleSide) → Derived axioms facts (HasRole x y q) → RoleReaches axioms q r → Derived axioms facts (HasRole x y r)
  role_reached facts x y q r h (clash.itself s) = h
  role_reached facts x y q r h (clash.further s t u k m) = d.carried (HasRole x y t) (HasRole x y r) (role_reached facts x y q t h k) (d.role x y t r m)

  attr_reached : (facts : List Fact) (x : List ℕ) (v : Value) (u w : Term) → Derived axioms facts (HasAttr x v u) → AttrReaches axioms u w → Derived axioms facts (HasAttr x v w)
  attr_reached facts x v u w h (clash.itself s) = h
  attr_reached facts x v u w h (clash.further s t z k m) = d.carried (HasAttr x v t) (HasAttr x v w) (attr_reached facts x v u t h k) (d.attr x v t w m)

  module _ (p : Term) (a b : List ℕ) where
    -- the concepts of the two ends, and the roles of the pair
    abbrev pub HasEnd : List ℕ → Basic → Type 0
    HasEnd x c = ((x ≡ a) × ConceptReaches axioms (basic.Exists (Direct p)) c) ⊎ ((x ≡ b) × ConceptReaches axioms (basic.Exists (Inverse p)) c)

    abbrev pub HasPair : List ℕ → List ℕ → RoleSide → Type 0
    HasPair x y q = ((x ≡ a) × (y ≡ b) × RoleReaches axioms (Direct p) q) ⊎ ((x ≡ b) × (y ≡ a) × RoleReaches axioms (Inverse p) q)

    abbrev SaysOfRole : Row → Type 0
    SaysOfRole (HasConcept (Named x) c) = HasEnd x c
    SaysOfRole (HasConcept (Witness q) c) = Unit {0}
    SaysOfRole (HasConcept (WitnessIn q e) c) = Unit {0}
    SaysOfRole (HasRole x y q) = HasPair x y q
    SaysOfRole (HasAttr x v u) = ⊥
    SaysOfRole (IsWitnessed q) = Unit {0}
    SaysOfRole (IsWitnessedIn q e) = Unit {0}
    SaysOfRole (IsValued u) = Unit {0}

    role_first : (f : Fact) (r : Row) → f ≡ fact.Role p a b → Gives f r → SaysOfRole r
    role_first f r e (d.class k x) = cc
    role_first f r e (d.role q x y) =
        let t : q ≡ p = cc in
        inl (cc, cc, subst (λ (z : Term). RoleReaches axioms (Direct p) (Direct z)) (sym t) (clash.itself (Direct p)))
    role_first f r e (d.role_back q x y) =
        let t : q ≡ p = cc in
        inr (cc, cc, subst (λ (z : Term). RoleReaches axioms (Inverse p) (Inverse z)) (sym t) (clash.itself (Inverse p)))
    role_first f r e (d.attr u x v) = cc

    end_along : (x : Thing) (c e : Basic) → ConceptStep axioms c e → SaysOfRole (HasConcept x c) → SaysOfRole (HasConcept x e)
    end_along (Named x) c e s (inl h) = inl (h.0, reach.further (basic.Exists (Direct p)) c e h.1 s)
    end_along (Named x) c e s (inr h) = inr (h.0, reach.further (basic.Exists (Inverse p)) c e h.1 s)
    end_along (Witness q) c e s h = tt
    end_along (WitnessIn q k) c e s h = tt

    end_of : (x y : List ℕ) (q : RoleSide) → HasPair x y q → HasEnd x (basic.Exists q)
    end_of x y q (inl h) = inl (h.0, some_reached (Direct p) q h.2)
    end_of x y q (inr h) = inr (h.0, some_reached (Inverse p) q h.2)

    pair_along : (x y : List ℕ) (q r : RoleSide) → d.RoleStep axioms q r → HasPair x y q → HasPair x y r
    pair_along x y q r m (inl h) = inl (h.0, h.1, clash.further (Direct p) q r h.2 m)
    pair_along x y q r m (inr h) = inr (h.0, h.1, clash.further (Inverse p) q r h.2 m)

    role_next : (q r : Row) → Carries axioms q r → SaysOfRole q → SaysOfRole r
    role_next q r (d.has_some x y s) h = end_of x y s h
    role_next q r (d.has_domain x v u) h = absurd h
    role_next q r (d.concept x c e m) h = end_along x c e (reach.concept c e m) h
    role_next q r (d.role x y s t m) h = pair_along x y s t m h
    role_next q r (d.attr x v u w m) h = h
    role_next q r (d.some_role x s t m) h = end_along x (basic.Exists s) (basic.Exists t) (reach.role s t m) h
    role_next q r (d.domain x u w m) h = end_along x (basic.Domain u) (basic.Domain w) (reach.attr u w m) h
    role_next q r (d.witnessed x s) h = tt
    role_next q r (d.witness s t e) h = tt
    role_next q r (d.some_in x c e s m) h = end_along x c (basic.Exists s) (reach.some_in c e s m) h
    role_next q r (d.witnessed_in x c e s m) h = tt
    role_next q r (d.witness_in s t c e) h = tt
    role_next q r (d.witness_has s c) h = tt
    role_next q r (d.valued x u) h = tt

    said_of_role : (r : Row) → Derived axioms (fact.Role p a b ∷ []) r → SaysOfRole r
    said_of_role r (d.given f s m g) = ⊎_elim (λ e. role_first f r (sym e) g) (λ n. absurd (nowhere f n)) (cons_cases (fact.Role p a b) [] f m)
    said_of_role r (d.carried q s h t) = role_next q r t (said_of_role q h)

    forth : Derived axioms (fact.Role p a b ∷ []) (HasRole a b (Direct p))
    forth = d.given (fact.Role p a b) (HasRole a b (Direct p)) (here (fact.Role p a b) []) (d.role p a b)

    back : Derived axioms (fact.Role p a b ∷ []) (HasRole b a (Inverse p))
    back = d.given (fact.Role p a b) (HasRole b a (Inverse p)) (here (fact.Role p a b) []) (d.role_back p a b)

    concept_of_end : (x : List ℕ) (c : Basic) → HasEnd x c → Derived axioms (fact.Role p a b ∷ []) (HasConcept (Named x) c)
    concept_of_end x c (inl h) =
        subst (λ (z : List ℕ). Derived axioms (fact.Role p a b ∷ []) (HasConcept (Named z) c)) (sym h.0)
        (concept_reached axioms (fact.Role p a b ∷ []) (Named a) (basic.Exists (Direct p)) c (d.carried (HasRole a b (Direct p)) (HasConcept (Named a) (basic.Exists (Direct p))) forth (d.has_some a b (Direct p))) h.1)
    concept_of_end x c (inr h) =
        subst (λ (z : List ℕ). Derived axioms (fact.Role p a b ∷ []) (HasConcept (Named z) c)) (sym h.0)
        (concept_reached axioms (fact.Role p a b ∷ []) (Named b) (basic.Exists (Inverse p)) c (d.carried (HasRole b a (Inverse p)) (HasConcept (Named b) (basic.Exists (Inverse p))) back (d.has_some b a (Inverse p))) h.1)

    role_of_pair : (x y : List ℕ) (q : RoleSide) → HasPair x y q → Derived axioms (fact.Role p a b ∷ []) (HasRole x y q)
    role_of_pair x y q (inl h) =
        let at : Derived axioms (fact.Role p a b ∷ []) (HasRole a b q) = role_reached (fact.Role p a b ∷ []) a b (Direct p) q forth h.2 in
        subst (λ (z : List ℕ). Derived axioms (fact.Role p a b ∷ []) (HasRole z y q)) (sym h.0) (subst (λ (z : List ℕ). Derived axioms (fact.Role p a b ∷ []) (HasRole a z q)) (sym h.1) at)
    role_of_pair x y q (inr h) =
        let at : Derived axioms (fact.Role p a b ∷ []) (HasRole b a q) = role_reached (fact.Role p a b ∷ []) b a (Inverse p) q back h.2 in
        subst (λ (z : List ℕ). Derived axioms (fact.Role p a b ∷ []) (HasRole z y q)) (sym h.0) (subst (λ (z : List ℕ). Derived axioms (fact.Role p a b ∷ []) (HasRole b z q)) (sym h.1) at)

    pub concept_of_role_fact : (x : List ℕ) (c : Basic) → Derived axioms (fact.Role p a b ∷ []) (HasConcept (Named x) c) ↔ HasEnd x c
    concept_of_role_fact x c = ((λ h. said_of_role (HasConcept (Named x) c) h), λ h. concept_of_end x c h)

    pub role_of_role_fact : (x y : List ℕ) (q : RoleSide) → Derived axioms (fact.Role p a b ∷ []) (HasRole x y q) ↔ HasPair x y q
    role_of_role_fact x y q = ((λ h. said_of_role (HasRole x y q) h), λ h. role_of_pair x y q h)

  module _ (u : Term) (a : List ℕ) (v : Value) where
    abbrev SaysOfAttr : Row → Type 0
    SaysOfAttr (HasConcept (Named x) c) = (x ≡ a) × ConceptReaches axioms (basic.Domain u) c
    SaysOfAttr (HasConcept (Witness q) c) = Unit {0}
    SaysOfAttr (HasConcept (WitnessIn q e) c) = Unit {0}
    SaysOfAttr (HasRole x y q) = ⊥
    SaysOfAttr (HasAttr x w t) = (x ≡ a) × (w ≡ v) × AttrReaches axioms u t
    SaysOfAttr (IsWitnessed q) = Unit {0}
    SaysOfAttr (IsWitnessedIn q e) = Unit {0}
    SaysOfAttr (IsValued t) = Unit {0}

    attr_first : (f : Fact) (r : Row) → f ≡ fact.Attr u a v → Gives f r → SaysOfAttr r
    attr_first f r e (d.class k x) = cc
    attr_first f r e (d.role q x y) = cc
    attr_first f r e (d.role_back q x y) = cc
    attr_first f r e (d.attr t x w) =
        let s : t ≡ u = cc in
        (cc, cc, subst (λ (z : Term). AttrReaches axioms u z) (sym s) (clash.itself u))

    domain_reached : (t : Term) → AttrReaches axioms u t → ConceptReaches axioms (basic.Domain u) (basic.Domain t)
    domain_reached t (clash.itself s) = reach.itself (basic.Domain s)
    domain_reached t (clash.further s w z h k) = reach.further (basic.Domain u) (basic.Domain w) (basic.Domain t) (domain_reached w h) (reach.attr w t k)

    subject_along : (x : Thing) (c e : Basic) → ConceptStep axioms c e → SaysOfAttr (HasConcept x c) → SaysOfAttr (HasConcept x e)
    subject_along (Named x) c e s h = (h.0, reach.further (basic.Domain u) c e h.1 s)
    subject_along (Witness q) c e s h = tt
    subject_along (WitnessIn q k) c e s h = tt

    attr_next : (q r : Row) → Carries axioms q r → SaysOfAttr q → SaysOfAttr r
    attr_next q r (d.has_some x y s) h = absurd h
    attr_next q r (d.has_domain x w t) h = (h.0, domain_reached t h.2)
    attr_next q r (d.concept x c e m) h = subject_along x c e (reach.concept c e m) h
    attr_next q r (d.role x y s t m) h = h
    attr_next q r (d.attr x w s t m) h = (h.0, h.1, clash.further u s t h.2 m)
    attr_next q r (d.some_role x s t m) h = subject_along x (basic.Exists s) (basic.Exists t) (reach.role s t m) h
    attr_next q r (d.domain x s t m) h = subject_along x (basic.Domain s) (basic.Domain t) (reach.attr s t m) h
    attr_next q r (d.witnessed x s) h = tt
    attr_next q r (d.witness s t e) h = tt
    attr_next q r (d.some_in x c e s m) h = subject_along x c (basic.Exists s) (reach.some_in c e s m) h
    attr_next q r (d.witnessed_in x c e s m) h = tt
    attr_next q r (d.witness_in s t c e) h = tt
    attr_next q r (d.witness_has s c) h = tt
    attr_next q r (d.valued x t) h = tt

    said_of_attr : (r : Row) → Derived axioms (fact.Attr u a v ∷ []) r → SaysOfAttr r
    said_of_attr r (d.given f s m g) = ⊎_elim (λ e. attr_first f r (sym e) g) (λ n. absurd (nowhere f n)) (cons_cases (fact.Attr u a v) [] f m)
    said_of_attr r (d.carried q s h t) = attr_next q r t (said_of_attr q h)

    has_it : Derived axioms (fact.Attr u a v ∷ []) (HasAttr a v u)
    has_it = d.given (fact.Attr u a v) (HasAttr a v u) (here (fact.Attr u a v) []) (d.attr u a v)

    pub concept_of_attr_fact : (x : List ℕ) (c : Basic) → Derived axioms (fact.Attr u a v ∷ []) (HasConcept (Named x) c) ↔ ((x ≡ a) × ConceptReaches axioms (basic.Domain u) c)
    concept_of_attr_fact x c = (
      (λ h. said_of_attr (HasConcept (Named x) c) h),
      λ h. subst (λ (z : List ℕ). Derived axioms (fact.Attr u a v ∷ []) (HasConcept (Named z) c)) (sym h.0)
          (concept_reached axioms (fact.Attr u a v ∷ []) (Named a) (basic.Domain u) c (d.carried (HasAttr a v u) (HasConcept (Named a) (basic.Domain u)) has_it (d.has_domain a v u)) h.1),
    )

    pub attr_of_attr_fact : (x : List ℕ) (w : Value) (t : Term) → Derived axioms (fact.Attr u a v ∷ []) (HasAttr x w t) ↔ ((x ≡ a) × (w ≡ v) × AttrReaches axioms u t)
    attr_of_attr_fact x w t = (
      (λ h. said_of_attr (HasAttr x w t) h),
      λ h. subst (λ (z : List ℕ). Derived axioms (fact.Attr u a v ∷ []) (HasAttr z w t)) (sym h.0)
          (subst (λ (z : Value). Derived axioms (fact.Attr u a v ∷ []) (HasAttr a z t)) (sym h.1) (attr_reached (fact.Attr u a v ∷ []) a v u t has_it h.2)),
    )
