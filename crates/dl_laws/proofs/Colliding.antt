-- Collisions, by what the program asks.
use Rattle.std.proofs.Common.{◌≡◌, Bool, true, IsTrue, ℕ, List, [], ◌∷◌, refl, sym, subst, inl, inr, ◌⊎◌, ⊎_elim}
use Rattle.std.specs.Prelude.{◌↔◌, Contains}
use Rattle.dl_base.specs.declared.axioms.Axiom.{Axiom}
use Rattle.dl_base.specs.declared.axioms.Axiom.TheVariants.{ConceptApart, RoleApart, AttrApart, Range, FunctionalRole, FunctionalAttr}
use Rattle.dl_base.specs.declared.names.Value.{Value}
use Rattle.dl_base.specs.declared.terms.Term.{Term}
use Rattle.dl_base.specs.declared.terms.RoleSide.{RoleSide}
use Rattle.dl_base.specs.declared.statements.Fact.{Fact}
use Rattle.dl_base.proofs.Members.{here, there, alone, cons_cases}
use Rattle.dl_laws.specs.Rows.{Start, OfConcept, OfRole, OfAttr, subject, concept, starts}
use Rattle.dl_laws.specs.Emptiness as e
use Rattle.dl_laws.specs.Emptiness.{Collide}
use Rattle.dl_laws.proofs.Pairs.{collide_subject}
use Rattle.dl_laws.specs.Why.{ConceptWhy, KindWhy}

module _ (axioms : List Axiom) where
  abbrev pub Why : Start → Start → Type 0
  Why s t = ConceptWhy axioms s t ⊎ KindWhy axioms s t

  at_both : (s t v w : Start) → s ≡ v → t ≡ w → KindWhy axioms v w → KindWhy axioms s t
  at_both s t v w i j h = subst (λ z. KindWhy axioms z t) (sym i) (subst (λ z. KindWhy axioms v z) (sym j) h)

  why : (s t : Start) → Collide axioms s t → Why s t
  why s t (e.concepts b k i m h j) = inl (ConceptApart b k, m, (b, k, refl, h, j))
  why s t (e.roles a b q r v w i j m h l) = inr (at_both s t (OfRole a b q) (OfRole a b r) i j (inl (refl, (RoleApart v w, m, (v, w, refl, h, l)))))
  why s t (e.attrs a x q r v w i j m h l) = inr (at_both s t (OfAttr a x q) (OfAttr a x r) i j (inl (refl, inl (AttrApart v w, m, (v, w, refl, h, l)))))
  why s t (e.partners a x y q r v i j m ne h l) = inr (at_both s t (OfRole a x q) (OfRole a y r) i j (inr (ne, (FunctionalRole v, m, (v, refl, h, l)))))
  why s t (e.values a x y q r v i j m ne h l) = inr (at_both s t (OfAttr a x q) (OfAttr a y r) i j (inr (ne, (FunctionalAttr v, m, (v, refl, h, l)))))
  why s t (e.range a x q r v k i j m ne h l) = inr (at_both s t (OfAttr a x q) (OfAttr a x r) i j (inl (refl, inr (Range v k, m, (v, k, refl, ne, h, l)))))

  same_role : (a b c d : List ℕ) (r : RoleSide) → a ≡ c → b ≡ d → OfRole c d r ≡ OfRole a b r
  same_role a b c d r i j = cc

  same_attr : (a c : List ℕ) (x y : Value) (u : Term) → a ≡ c → x ≡ y → OfAttr c y u ≡ OfAttr a x u
  same_attr a c x y u i j = cc

  by_kind : (s t : Start) → subject s ≡ subject t → KindWhy axioms s t → Collide axioms s t
  by_kind (OfConcept a b) t i h = absurd h
  by_kind (OfRole a b q) (OfConcept c d) i h = absurd h
  by_kind (OfRole a b q) (OfRole c d r) i (inl (j, (it, m, (v, w, x, h, l)))) = e.roles a b q r v w refl (same_role a b c d r i j) (subst (Contains axioms) x m) h l
  by_kind (OfRole a b q) (OfRole c d r) i (inr (ne, (it, m, (v, x, h, l)))) = e.partners a b d q r v refl (same_role a d c d r i refl) (subst (Contains axioms) x m) ne h l
  by_kind (OfRole a b q) (OfAttr c y w) i h = absurd h
  by_kind (OfAttr a x u) (OfConcept c d) i h = absurd h
  by_kind (OfAttr a x u) (OfRole c d r) i h = absurd h
  by_kind (OfAttr a x u) (OfAttr c y r) i (inl (j, (inl (it, m, (v, w, z, h, l))))) = e.attrs a x u r v w refl (same_attr a c x y r i j) (subst (Contains axioms) z m) h l
  by_kind (OfAttr a x u) (OfAttr c y r) i (inl (j, (inr (it, m, (v, d, z, ne, h, l))))) = e.range a x u r v d refl (same_attr a c x y r i j) (subst (Contains axioms) z m) ne h l
  by_kind (OfAttr a x u) (OfAttr c y r) i (inr (ne, (it, m, (v, z, h, l)))) = e.values a x y u r v refl (same_attr a c y y r i refl) (subst (Contains axioms) z m) ne h l

  from_why : (s t : Start) → subject s ≡ subject t → Why s t → Collide axioms s t
  from_why s t i (inl (it, m, (b, d, x, h, l))) = e.concepts b d i (subst (Contains axioms) x m) h l
  from_why s t i (inr h) = by_kind s t i h

  pub collide_why : (s t : Start) → subject s ≡ subject t → Collide axioms s t ↔ Why s t
  collide_why s t i = (why s t, from_why s t i)

  pub apart_subjects : (s t : Start) → ¬ (subject s ≡ subject t) → ¬ Collide axioms s t
  apart_subjects s t ne h = ne (collide_subject axioms s t h)

-- a fact with one start row, or with two
module _ (P : Start → Type 0) (f : Fact) where
  abbrev pub Some : Type 0
  Some = (t : Start) × Contains (starts f) t × P t

  pub one_told : (r : Bool) (x : Start) → starts f ≡ x ∷ [] → IsTrue r ↔ P x → IsTrue r ↔ Some
  one_told r x i h = (
    λ y. (x, subst (λ z. Contains z x) (sym i) (here x []), h.0 y),
    λ (t, m, p). h.1 (subst P (sym (alone x t (subst (λ z. Contains z t) i m))) p),
  )

  pub first_told : (x y : Start) → starts f ≡ x ∷ y ∷ [] → P x → IsTrue true ↔ Some
  first_told x y i p = (λ _. (x, subst (λ z. Contains z x) (sym i) (here x (y ∷ [])), p), λ _. refl)

  pub last_told : (r : Bool) (x y : Start) → starts f ≡ x ∷ y ∷ [] → ¬ P x → IsTrue r ↔ P y → IsTrue r ↔ Some
  last_told r x y i none h = (
    λ k. (y, subst (λ z. Contains z y) (sym i) (there x (y ∷ []) y (here y [])), h.0 k),
    λ (t, m, p). ⊎_elim (λ e. absurd (none (subst P (sym e) p))) (λ n. h.1 (subst P (sym (alone y t n)) p)) (cons_cases x (y ∷ []) t (subst (λ z. Contains z t) i m)),
  )
