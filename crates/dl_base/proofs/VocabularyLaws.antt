-- Names by number, and the restriction on functional predicates.
use Rattle.std.proofs.Common.{◌≡◌, ℕ, ◌<◌, ◌+◌, List, [], ◌∷◌, ◌++◌, Option, Some, length, take, get_or, refl, sym, ◌∙◌, ap, subst, inl, inr, ◌⊎◌, ⊎_elim}
use Rattle.std.specs.Prelude.{Contains, ◌↔◌}
use Rattle.std.proofs.lemmas.List.{take_more}
use Rattle.std.proofs.lemmas.List.Elements.{Contains-push_cases, Contains-append_left, Contains-push}
use Rattle.dl_base.specs.declared.axioms.Axiom.{Axiom}
use Rattle.dl_base.specs.declared.axioms.Axiom.TheVariants.{ConceptIn, ConceptApart, RoleIn, RoleApart, AttrIn, AttrApart, Range, FunctionalRole, FunctionalAttr, ConceptSome}
use Rattle.dl_base.specs.declared.restriction.Predicate.{Predicate}
use Rattle.dl_base.specs.declared.restriction.Predicate.TheVariants as predicate
use Rattle.dl_base.specs.declared.terms.Term.{Term}
use Rattle.dl_base.specs.declared.terms.Basic.{Basic}
use Rattle.dl_base.specs.declared.terms.RoleSide.{RoleSide}
use Rattle.dl_base.specs.declared.terms.RoleSide.TheVariants.{Direct, Inverse}
use Rattle.dl_base.specs.Derivation.{inverse}
use Rattle.dl_base.specs.Validity.{IsFunctional, IsValid}
use Rattle.dl_base.specs.Vocabularies.{functional_by, specialised_by, role_of, IsDone}

-- the lists so far with one more element
pub take_on : {X : Type 0} (xs : List X) (i : ℕ) (x : X) → i < length xs → x ≡ get_or xs i x → take (i + 1) xs ≡ take i xs ++ x ∷ []
take_on xs i x l e = take_more xs i x l ∙ ap (λ z. take i xs ++ z ∷ []) (sym e)

functional_is : (a : Axiom) (p : Predicate) → functional_by a ≡ Some p
    → ((q : RoleSide) × (a ≡ FunctionalRole q) × (p ≡ role_of q)) ⊎ ((u : Term) × (a ≡ FunctionalAttr u) × (p ≡ predicate.Attr u))
functional_is (FunctionalRole q) p e = inl (q, refl, cc)
functional_is (FunctionalAttr u) p e = inr (u, refl, cc)
functional_is (ConceptIn b c) p e = cc
functional_is (ConceptApart b c) p e = cc
functional_is (RoleIn q r) p e = cc
functional_is (RoleApart q r) p e = cc
functional_is (AttrIn u w) p e = cc
functional_is (AttrApart u w) p e = cc
functional_is (Range u d) p e = cc
functional_is (ConceptSome b q c) p e = cc

abbrev SpecialisesBy : Axiom → Predicate → Type 0
SpecialisesBy a p = ((q : RoleSide) × (r : RoleSide) × (a ≡ RoleIn q r) × (p ≡ role_of r))
    ⊎ (((u : Term) × (w : Term) × (a ≡ AttrIn u w) × (p ≡ predicate.Attr w))
    ⊎ ((b : Basic) × (q : RoleSide) × (c : Basic) × (a ≡ ConceptSome b q c) × (p ≡ role_of q)))

specialised_is : (a : Axiom) (p : Predicate) → specialised_by a ≡ Some p → SpecialisesBy a p
specialised_is (RoleIn q r) p e = inl (q, r, refl, cc)
specialised_is (AttrIn u w) p e = inr (inl (u, w, refl, cc))
specialised_is (ConceptSome b q c) p e = inr (inr (b, q, c, refl, cc))
specialised_is (FunctionalRole q) p e = cc
specialised_is (FunctionalAttr u) p e = cc
specialised_is (ConceptIn b c) p e = cc
specialised_is (ConceptApart b c) p e = cc
specialised_is (RoleApart q r) p e = cc
specialised_is (AttrApart u w) p e = cc
specialised_is (Range u d) p e = cc

-- two sides of one role are the same side, or one is the inverse of the other
same_role : (q r : RoleSide) → role_of q ≡ role_of r → (q ≡ r) ⊎ (q ≡ inverse r)
same_role (Direct p) (Direct s) e = inl cc
same_role (Direct p) (Inverse s) e = inr cc
same_role (Inverse p) (Direct s) e = inr cc
same_role (Inverse p) (Inverse s) e = inl cc

role_of_inverse : (q : RoleSide) → role_of (inverse q) ≡ role_of q
role_of_inverse (Direct p) = refl
role_of_inverse (Inverse p) = refl

attr_no_role : (u : Term) (r : RoleSide) → predicate.Attr u ≡ role_of r → ⊥
attr_no_role u (Direct p) h = cc
attr_no_role u (Inverse p) h = cc

module _ (axioms : List Axiom) where
  abbrev pub NoneTwice : Type 0
  NoneTwice = (p : Predicate) → IsDone functional_by axioms p → IsDone specialised_by axioms p → ⊥

  functional_side : (q r : RoleSide) → Contains axioms (FunctionalRole q) → role_of q ≡ role_of r → IsFunctional axioms r
  functional_side q r m e = ⊎_elim (λ s. inl (subst (λ (z : RoleSide). Contains axioms (FunctionalRole z)) s m)) (λ s. inr (subst (λ (z : RoleSide). Contains axioms (FunctionalRole z)) s m)) (same_role q r e)

  pub valid_none_twice : IsValid axioms → NoneTwice
  valid_none_twice v p (a, m, e) (b, n, f) = ⊎_elim
      (λ (q, ea, ep).
      let here : Contains axioms (FunctionalRole q) = subst (Contains axioms) ea m in
      ⊎_elim
      (λ (s, r, eb, er). v.roles s r (subst (Contains axioms) eb n) (functional_side q r here (sym ep ∙ er)))
      (λ k. ⊎_elim
      (λ (u, w, eb, er). attr_no_role w q (sym er ∙ ep))
      (λ (k0, s, c, eb, er). v.partners k0 c s (subst (Contains axioms) eb n) (functional_side q s here (sym ep ∙ er)))
      k)
      (specialised_is b p f))
      (λ (u, ea, ep).
      let here : Contains axioms (FunctionalAttr u) = subst (Contains axioms) ea m in
      ⊎_elim
      (λ (s, r, eb, er). attr_no_role u r (sym ep ∙ er))
      (λ k. ⊎_elim
      (λ (t, w, eb, er). let same : u ≡ w = cc in v.attrs t w (subst (Contains axioms) eb n) (subst (λ (z : Term). Contains axioms (FunctionalAttr z)) same here))
      (λ (k0, s, c, eb, er). attr_no_role u s (sym ep ∙ er))
      k)
      (specialised_is b p f))
      (functional_is a p e)

  functional_done : (r : RoleSide) → IsFunctional axioms r → IsDone functional_by axioms (role_of r)
  functional_done r (inl m) = (FunctionalRole r, m, refl)
  functional_done r (inr m) = (FunctionalRole (inverse r), m, ap Some (role_of_inverse r))

  pub none_twice_valid : NoneTwice → IsValid axioms
  none_twice_valid h = record {
    roles = λ q r m f. h (role_of r) (functional_done r f) (RoleIn q r, m, refl);
    attrs = λ u w m f. h (predicate.Attr w) (FunctionalAttr w, f, refl) (AttrIn u w, m, refl);
    partners = λ b c q m f. h (role_of q) (functional_done q f) (ConceptSome b q c, m, refl);
  }

module _ (by : Axiom → Option Predicate) where
  pub done_push : (xs : List Axiom) (a : Axiom) (p : Predicate) → IsDone by (xs ++ a ∷ []) p ↔ ((by a ≡ Some p) ⊎ IsDone by xs p)
  done_push xs a p = (
    (λ (b, m, e). ⊎_elim (λ k. inr (b, k, e)) (λ k. inl (subst (λ (z : Axiom). by z ≡ Some p) (sym k) e)) (Contains-push_cases xs a b m)),
    λ s. ⊎_elim (λ e. (a, Contains-push xs a, e)) (λ (b, m, e). (b, Contains-append_left xs (a ∷ []) b m, e)) s,
  )

  -- the set has what was done so far, and one step more
  pub done_more : (keys more : List Predicate) (xs : List Axiom) (i : ℕ) (a : Axiom) → i < length xs → a ≡ get_or xs i a
      → ((p : Predicate) → Contains keys p ↔ IsDone by (take i xs) p)
      → ((p : Predicate) → Contains more p ↔ ((by a ≡ Some p) ⊎ Contains keys p))
      → (p : Predicate) → Contains more p ↔ IsDone by (take (i + 1) xs) p
  done_more keys more xs i a l e before now p = subst (λ zs. Contains more p ↔ IsDone by zs p) (sym (take_on xs i a l e)) (
    (λ m. (done_push (take i xs) a p).1 (⊎_elim inl (λ k. inr ((before p).0 k)) ((now p).0 m))),
    λ d. (now p).1 (⊎_elim inl (λ k. inr ((before p).1 k)) ((done_push (take i xs) a p).0 d)),
  )

-- an axiom doesn't both declare functional and specialise
not_both : (a : Axiom) (p q : Predicate) → functional_by a ≡ Some p → specialised_by a ≡ Some q → ⊥
not_both (FunctionalRole r) p q e f = cc
not_both (FunctionalAttr u) p q e f = cc
not_both (ConceptIn b c) p q e f = cc
not_both (ConceptApart b c) p q e f = cc
not_both (RoleIn s r) p q e f = cc
not_both (RoleApart s r) p q e f = cc
not_both (AttrIn u w) p q e f = cc
not_both (AttrApart u w) p q e f = cc
not_both (Range u d) p q e f = cc
not_both (ConceptSome b s c) p q e f = cc

module _ (xs : List Axiom) (i : ℕ) (a : Axiom) (l : i < length xs) (e : a ≡ get_or xs i a) where
  abbrev Now : (Axiom → Option Predicate) → Predicate → Type 0
  Now by p = IsDone by (take (i + 1) xs) p

  now_from : (by : Axiom → Option Predicate) (p : Predicate) → Now by p → (by a ≡ Some p) ⊎ IsDone by (take i xs) p
  now_from by p d = (done_push by (take i xs) a p).0 (subst (λ zs. IsDone by zs p) (take_on xs i a l e) d)

  now_into : (by : Axiom → Option Predicate) (p : Predicate) → (by a ≡ Some p) ⊎ IsDone by (take i xs) p → Now by p
  now_into by p s = subst (λ zs. IsDone by zs p) (sym (take_on xs i a l e)) ((done_push by (take i xs) a p).1 s)

  -- with this axiom something functional is specialised
  pub breaks_here : ((p : Predicate) × (functional_by a ≡ Some p) × IsDone specialised_by (take i xs) p) ⊎ ((p : Predicate) × (specialised_by a ≡ Some p) × IsDone functional_by (take i xs) p)
      → ¬ IsValid (take (i + 1) xs)
  breaks_here (inl (p, h, d)) v = valid_none_twice (take (i + 1) xs) v p (now_into functional_by p (inl h)) (now_into specialised_by p (inr d))
  breaks_here (inr (p, h, d)) v = valid_none_twice (take (i + 1) xs) v p (now_into functional_by p (inr d)) (now_into specialised_by p (inl h))

  -- with this axiom it isn't
  pub still_valid : IsValid (take i xs) → ((p : Predicate) → functional_by a ≡ Some p → IsDone specialised_by (take i xs) p → ⊥)
      → ((p : Predicate) → specialised_by a ≡ Some p → IsDone functional_by (take i xs) p → ⊥) → IsValid (take (i + 1) xs)
  still_valid v here below = none_twice_valid (take (i + 1) xs) (λ p f s. ⊎_elim
      (λ h. ⊎_elim (λ k. not_both a p p h k) (λ k. here p h k) (now_from specialised_by p s))
      (λ d. ⊎_elim (λ k. below p k d) (λ k. valid_none_twice (take i xs) v p d k) (now_from specialised_by p s))
      (now_from functional_by p f))
