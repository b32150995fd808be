-- What one row leads to, by reachability.
use Rattle.std.proofs.Common.{◌≡◌, List, refl, sym, subst, ap, inl, inr, ◌⊎◌}
use Rattle.std.specs.Prelude.{Contains}
use Rattle.dl_base.specs.declared.axioms.Axiom.{Axiom}
use Rattle.dl_base.specs.declared.axioms.Axiom.TheVariants.{ConceptSome}
use Rattle.dl_base.specs.declared.terms.Term.{Term}
use Rattle.dl_base.specs.declared.terms.RoleSide.{RoleSide}
use Rattle.dl_base.specs.declared.terms.Basic.{Basic}
use Rattle.dl_base.specs.declared.terms.Basic.TheVariants as basic
use Rattle.dl_base.specs.Derivation as d
use Rattle.dl_base.specs.Derivation.{Thing, Named, Witness, WitnessIn, Row, HasConcept, HasRole, HasAttr, IsWitnessed, IsWitnessedIn, IsValued, Carries, inverse}
use Rattle.dl_base.specs.Clash as c
use Rattle.dl_base.specs.Clash.{RoleReaches, AttrReaches}
use Rattle.dl_base.specs.Reach as reach
use Rattle.dl_base.specs.Reach.{ConceptStep, ConceptReaches}
use Rattle.dl_laws.specs.Rows as rows
use Rattle.dl_laws.specs.Rows.{Leads, Contradict, Oppose, Start, OfConcept, OfRole, OfAttr, row, subject, concept}
use Rattle.dl_laws.specs.Emptiness as e
use Rattle.dl_laws.specs.Emptiness.{NeedStep, Needs, IsFilled, IsContradictory, IsUnsatisfiable, Collide}

module _ (axioms : List Axiom) where
  pub roles_reach : (q r : RoleSide) → RoleReaches axioms q r → ConceptReaches axioms (basic.Exists q) (basic.Exists r)
  roles_reach q r (c.itself z) = reach.itself (basic.Exists q)
  roles_reach q r (c.further x y z h s) = reach.further (basic.Exists q) (basic.Exists y) (basic.Exists r) (roles_reach q y h) (reach.role y r s)

  pub attrs_reach : (u w : Term) → AttrReaches axioms u w → ConceptReaches axioms (basic.Domain u) (basic.Domain w)
  attrs_reach u w (c.itself z) = reach.itself (basic.Domain u)
  attrs_reach u w (c.further x y z h s) = reach.further (basic.Domain u) (basic.Domain y) (basic.Domain w) (attrs_reach u y h) (reach.attr y w s)

  pub needs_more : (b c k : Basic) → Needs axioms b c → ConceptReaches axioms c k → Needs axioms b k
  needs_more b c k n (reach.itself z) = n
  needs_more b c k n (reach.further x y z h s) = e.further b y k (needs_more b c y n h) (e.same y k s)

  -- the witness of the role and the concept is reached
  abbrev pub IsChosen : Basic → RoleSide → Basic → Type 0
  IsChosen b q f = (k : Basic) × Needs axioms b k × Contains axioms (ConceptSome k q f)

  chosen_needs : (b : Basic) (q : RoleSide) (f k : Basic) → IsChosen b q f → IsFilled axioms q f k → Needs axioms b k
  chosen_needs b q f k (x, n, m) (inl h) =
      let to_some = e.further b x (basic.Exists q) n (e.same x (basic.Exists q) (reach.some_in x f q m)) in
      needs_more b (basic.Exists (inverse q)) k (e.further b (basic.Exists q) (basic.Exists (inverse q)) to_some (e.partner q (inverse q) refl)) h
  chosen_needs b q f k (x, n, m) (inr h) = needs_more b f k (e.further b x f n (e.filler x f q m)) h

  filled_more : (q : RoleSide) (f k l : Basic) → ConceptStep axioms k l → IsFilled axioms q f k → IsFilled axioms q f l
  filled_more q f k l s (inl h) = inl (reach.further (basic.Exists (inverse q)) k l h s)
  filled_more q f k l s (inr h) = inr (reach.further f k l h s)

  module _ (s : Start) where
    abbrev pub Says : Row → Type 0
    Says (HasConcept (Named x) k) = (x ≡ subject s) × ConceptReaches axioms (concept s) k
    Says (HasConcept (Witness q) k) = Needs axioms (concept s) (basic.Exists q) × ConceptReaches axioms (basic.Exists (inverse q)) k
    Says (HasConcept (WitnessIn q f) k) = IsChosen (concept s) q f × IsFilled axioms q f k
    Says (HasRole x y r) = (q : RoleSide) × (s ≡ OfRole x y q) × RoleReaches axioms q r
    Says (HasAttr x v w) = (u : Term) × (s ≡ OfAttr x v u) × AttrReaches axioms u w
    Says (IsWitnessed q) = Needs axioms (concept s) (basic.Exists q)
    Says (IsWitnessedIn q f) = IsChosen (concept s) q f
    Says (IsValued u) = Needs axioms (concept s) (basic.Domain u)

    along : (x : Thing) (k l : Basic) → ConceptStep axioms k l → Says (HasConcept x k) → Says (HasConcept x l)
    along (Named x) k l t h = (h.0, reach.further (concept s) k l h.1 t)
    along (Witness q) k l t h = (h.0, reach.further (basic.Exists (inverse q)) k l h.1 t)
    along (WitnessIn q f) k l t h = (h.0, filled_more q f k l t h.1)

    needed : (x : Thing) (k : Basic) → Says (HasConcept x k) → Needs axioms (concept s) k
    needed (Named x) k h = needs_more (concept s) (concept s) k (e.itself (concept s)) h.1
    needed (Witness q) k h = needs_more (concept s) (basic.Exists (inverse q)) k (e.further (concept s) (basic.Exists q) (basic.Exists (inverse q)) h.0 (e.partner q (inverse q) refl)) h.1
    needed (WitnessIn q f) k h = chosen_needs (concept s) q f k h.0 h.1

    said_next : (q r : Row) → Carries axioms q r → Says q → Says r
    said_next q r (d.has_some x y t) h = (sym (ap subject h.1), subst (λ z. ConceptReaches axioms z (basic.Exists t)) (sym (ap concept h.1)) (roles_reach h.0 t h.2))
    said_next q r (d.has_domain x v u) h = (sym (ap subject h.1), subst (λ z. ConceptReaches axioms z (basic.Domain u)) (sym (ap concept h.1)) (attrs_reach h.0 u h.2))
    said_next q r (d.concept x k l m) h = along x k l (reach.concept k l m) h
    said_next q r (d.role x y t w m) h = (h.0, h.1, c.further h.0 t w h.2 m)
    said_next q r (d.attr x v u w m) h = (h.0, h.1, c.further h.0 u w h.2 m)
    said_next q r (d.some_role x t w m) h = along x (basic.Exists t) (basic.Exists w) (reach.role t w m) h
    said_next q r (d.domain x u w m) h = along x (basic.Domain u) (basic.Domain w) (reach.attr u w m) h
    said_next q r (d.witnessed x t) h = needed x (basic.Exists t) h
    said_next q r (d.witness t w i) h = (h, subst (λ (z : RoleSide). ConceptReaches axioms (basic.Exists (inverse t)) (basic.Exists z)) (sym i) (reach.itself (basic.Exists (inverse t))))
    said_next q r (d.some_in x k l t m) h = along x k (basic.Exists t) (reach.some_in k l t m) h
    said_next q r (d.witnessed_in x k l t m) h = (k, needed x k h, m)
    said_next q r (d.witness_in t w l i) h = (h, inl (subst (λ (z : RoleSide). ConceptReaches axioms (basic.Exists (inverse t)) (basic.Exists z)) (sym i) (reach.itself (basic.Exists (inverse t)))))
    said_next q r (d.witness_has t l) h = (h, inr (reach.itself l))
    said_next q r (d.valued x u) h = needed x (basic.Domain u) h

  said_first : (s : Start) → Says s (row s)
  said_first (OfConcept a b) = (refl, reach.itself b)
  said_first (OfRole a b q) = (q, refl, c.itself q)
  said_first (OfAttr a v u) = (u, refl, c.itself u)

  said_from : (s : Start) (q r : Row) → q ≡ row s → Leads axioms q r → Says s r
  said_from s q r i (rows.itself z) = subst (Says s) (sym i) (said_first s)
  said_from s q r i (rows.onward x y z h k) = said_next s y r k (said_from s q y i h)

  -- what a start row leads to
  pub said : (s : Start) (r : Row) → Leads axioms (row s) r → Says s r
  said s r h = said_from s (row s) r refl h

  at_one : (s t : Start) (x : Thing) (k l : Basic) (z : Basic) → Needs axioms (concept s) z → IsContradictory axioms z → IsUnsatisfiable axioms (concept s) ⊎ Collide axioms s t
  at_one s t x k l z n h = inl (z, n, h)

  split : (s t : Start) (q r : Row) → Contradict axioms q r → Says s q → Says t r → IsUnsatisfiable axioms (concept s) ⊎ Collide axioms s t
  split s t q r (rows.concepts (Named x) k l m) h i = inr (e.concepts k l (cc) m h.1 i.1)
  split s t q r (rows.concepts (Witness p) k l m) h i = inl (basic.Exists (inverse p), e.further (concept s) (basic.Exists p) (basic.Exists (inverse p)) h.0 (e.partner p (inverse p) refl), e.concepts (basic.Exists (inverse p)) k l m h.1 i.1)
  split s t q r (rows.concepts (WitnessIn p f) k l m) h i = inl (h.0.0, h.0.1, e.fillers h.0.0 f k l p h.0.2 m h.1 i.1)
  split s t q r (rows.roles a b v w m) h i = inr (e.roles a b h.0 i.0 v w h.1 i.1 m h.2 i.2)
  split s t q r (rows.attrs a x v w m) h i = inr (e.attrs a x h.0 i.0 v w h.1 i.1 m h.2 i.2)
  split s t q r (rows.witness_roles p v w m j k) h i = inl (basic.Exists p, h, e.roles p v w m j k)
  split s t q r (rows.witness_in_roles p v w f m j k) h i = inl (basic.Exists p, e.further (concept s) h.0 (basic.Exists p) h.1 (e.same h.0 (basic.Exists p) (reach.some_in h.0 f p h.2)), e.roles p v w m j k)
  split s t q r (rows.value_attrs u v w m j k) h i = inl (basic.Domain u, h, e.attrs u v w m j k)
  split s t q r (rows.value_ranges u v w x y m n ne j k) h i = inl (basic.Domain u, h, e.ranges u v w x y m n ne j k)
  split s t q r (rows.partners a x y v m ne) h i = inr (e.partners a x y h.0 i.0 v h.1 i.1 m ne h.2 i.2)
  split s t q r (rows.values a x y v m ne) h i = inr (e.values a x y h.0 i.0 v h.1 i.1 m ne h.2 i.2)
  split s t q r (rows.range a x v y m ne) h i = inr (e.range a x h.0 i.0 v y h.1 i.1 m ne h.2 i.2)

  -- rows that oppose one another: the first is impossible by itself, or what they say of named individuals collides
  pub opposed_is : (s t : Start) → Oppose axioms (row s) (row t) → IsUnsatisfiable axioms (concept s) ⊎ Collide axioms s t
  opposed_is s t (q, r, k, h, i) = split s t q r k (said s q h) (said t r i)
