-- A fact matches a guard of another exactly where the two clash.
use Rattle.std.proofs.Common.{◌≡◌, ℕ, List, [], ◌∷◌, refl, sym, ◌∙◌, ap, subst, inl, inr, ◌⊎◌, ⊎_elim}
use Rattle.std.specs.Prelude.{◌≢◌, ◌↔◌, Contains}
use Rattle.dl_base.specs.declared.axioms.Axiom.{Axiom}
use Rattle.dl_base.specs.declared.names.Value.{Value}
use Rattle.dl_base.specs.declared.terms.Term.{Term}
use Rattle.dl_base.specs.declared.terms.RoleSide.{RoleSide}
use Rattle.dl_base.specs.declared.terms.RoleSide.TheVariants.{Direct, Inverse}
use Rattle.dl_base.specs.declared.terms.Basic.TheVariants as basic
use Rattle.dl_base.specs.declared.patterns.Pattern.{Pattern}
use Rattle.dl_base.specs.declared.patterns.Pattern.TheVariants as asked
use Rattle.dl_base.specs.declared.statements.Fact.{Fact}
use Rattle.dl_base.specs.declared.statements.Fact.TheVariants as fact
use Rattle.dl_base.specs.Patterns.{Matches}
use Rattle.dl_base.specs.Clash.{HasClash}
use Rattle.dl_base.proofs.Members.{here, there, alone, cons_cases}
use Rattle.dl_laws.specs.Rows.{Start, OfConcept, OfRole, OfAttr, subject, concept, starts}
use Rattle.dl_laws.specs.Emptiness as e
use Rattle.dl_laws.specs.Emptiness.{Collide}
use Rattle.dl_laws.proofs.Pairs.{collide_subject, alone_clash, pair_clash}
use Rattle.dl_laws.specs.Why.{KindWhy}
use Rattle.dl_laws.specs.Meeting.{SomeAxiom, RangesAttrs}
use Rattle.tbox_closure.specs.Tables.{IsRange}
use Rattle.dl_laws.specs.Meeting.{AreDisjointConcepts, AreDisjointRoles, AreDisjointAttrs, ShareFunctionalRole, ShareFunctionalAttr}
use Rattle.conflict_rules.specs.Clashing.{KindsClash, StartsClash, FactsClash, IsUnsatisfiableFact, BreaksRange}
use Rattle.conflict_rules.specs.Guards.{IsGuard, IsGuarded}
use Rattle.dl_laws.proofs.Colliding.{collide_why}

one_start : (m : Term) (c d : List ℕ) → Contains (OfRole c d (Direct m) ∷ OfRole d c (Inverse m) ∷ []) (OfRole c d (Direct m))
one_start m c d = here (OfRole c d (Direct m)) (OfRole d c (Inverse m) ∷ [])

other_start : (m : Term) (c d : List ℕ) → Contains (OfRole c d (Direct m) ∷ OfRole d c (Inverse m) ∷ []) (OfRole d c (Inverse m))
other_start m c d = there (OfRole c d (Direct m)) (OfRole d c (Inverse m) ∷ []) (OfRole d c (Inverse m)) (here (OfRole d c (Inverse m)) [])

module _ (axioms : List Axiom) where
  -- in one order or in the other
  abbrev pub Cross : Start → Start → Type 0
  Cross s t = Collide axioms s t ⊎ Collide axioms t s

  concept_meet : (s t : Start) → subject s ≡ subject t → AreDisjointConcepts axioms (concept s) (concept t) → Cross s t
  concept_meet s t i (inl h) = inl ((collide_why axioms s t i).1 (inl h))
  concept_meet s t i (inr h) = inr ((collide_why axioms t s (sym i)).1 (inl h))

  kind_meet : (s t : Start) → subject s ≡ subject t → KindsClash axioms s t → Cross s t
  kind_meet (OfConcept a b) t i h = absurd h
  kind_meet (OfRole a b q) (OfConcept c d) i h = absurd h
  kind_meet (OfRole a b q) (OfRole c d r) i (inl (j, inl h)) = inl ((collide_why axioms (OfRole a b q) (OfRole c d r) i).1 (inr (inl (j, h))))
  kind_meet (OfRole a b q) (OfRole c d r) i (inl (j, inr h)) = inr ((collide_why axioms (OfRole c d r) (OfRole a b q) (sym i)).1 (inr (inl (sym j, h))))
  kind_meet (OfRole a b q) (OfRole c d r) i (inr h) = inl ((collide_why axioms (OfRole a b q) (OfRole c d r) i).1 (inr (inr h)))
  kind_meet (OfRole a b q) (OfAttr c y w) i h = absurd h
  kind_meet (OfAttr a x u) (OfConcept c d) i h = absurd h
  kind_meet (OfAttr a x u) (OfRole c d r) i h = absurd h
  kind_meet (OfAttr a x u) (OfAttr c y w) i (inl (j, inl h)) = inl ((collide_why axioms (OfAttr a x u) (OfAttr c y w) i).1 (inr (inl (j, inl h))))
  kind_meet (OfAttr a x u) (OfAttr c y w) i (inl (j, inr h)) = inr ((collide_why axioms (OfAttr c y w) (OfAttr a x u) (sym i)).1 (inr (inl (sym j, inl h))))
  kind_meet (OfAttr a x u) (OfAttr c y w) i (inr h) = inl ((collide_why axioms (OfAttr a x u) (OfAttr c y w) i).1 (inr (inr h)))

  at_start : (s v t : Start) → s ≡ v → Cross v t → Cross s t
  at_start s v t i h = subst (λ z. Cross z t) (sym i) h

  -- a fact that matches a guard of the start row
  met : (s : Start) (p : Pattern) (g : Fact) → IsGuard axioms s p → Matches p g → (t : Start) × Contains (starts g) t × Cross s t
  met s (asked.Class n) (fact.Class m c) i j = absurd i
  met s (asked.Class n) (fact.Role m c d) i j = absurd i
  met s (asked.Class n) (fact.Attr m c z) i j = absurd i
  met s (asked.ClassOf n a) (fact.Class m c) (i, w) (j, k) = (OfConcept c (basic.Class m), here (OfConcept c (basic.Class m)) [], concept_meet s (OfConcept c (basic.Class m)) (sym i ∙ k) (subst (λ z. AreDisjointConcepts axioms (concept s) (basic.Class z)) j w))
  met s (asked.ClassOf n a) (fact.Role m c d) i j = absurd j
  met s (asked.ClassOf n a) (fact.Attr m c z) i j = absurd j
  met s (asked.Role n) (fact.Class m c) i j = absurd i
  met s (asked.Role n) (fact.Role m c d) i j = absurd i
  met s (asked.Role n) (fact.Attr m c z) i j = absurd i
  met s (asked.RoleFrom n a) (fact.Class m c) i j = absurd j
  met s (asked.RoleFrom n a) (fact.Role m c d) (i, w) (j, k) = (OfRole c d (Direct m), one_start m c d, concept_meet s (OfRole c d (Direct m)) (sym i ∙ k) (subst (λ (z : Term). AreDisjointConcepts axioms (concept s) (basic.Exists (Direct z))) j w))
  met s (asked.RoleFrom n a) (fact.Attr m c z) i j = absurd j
  met s (asked.RoleTo n b) (fact.Class m c) i j = absurd j
  met s (asked.RoleTo n b) (fact.Role m c d) (i, w) (j, k) = (OfRole d c (Inverse m), other_start m c d, concept_meet s (OfRole d c (Inverse m)) (sym i ∙ k) (subst (λ (z : Term). AreDisjointConcepts axioms (concept s) (basic.Exists (Inverse z))) j w))
  met s (asked.RoleTo n b) (fact.Attr m c z) i j = absurd j
  met s (asked.RoleBoth n x y) (fact.Class m c) i j = absurd j
  met s (asked.RoleBoth n x y) (fact.Role m c d) (q, inl (e, h)) (j, k, l) = (OfRole c d (Direct m), one_start m c d, at_start s (OfRole x y q) (OfRole c d (Direct m)) e (kind_meet (OfRole x y q) (OfRole c d (Direct m)) k (inl (l, subst (λ (z : Term). AreDisjointRoles axioms q (Direct z)) j h))))
  met s (asked.RoleBoth n x y) (fact.Role m c d) (q, inr (e, h)) (j, k, l) = (OfRole d c (Inverse m), other_start m c d, at_start s (OfRole y x q) (OfRole d c (Inverse m)) e (kind_meet (OfRole y x q) (OfRole d c (Inverse m)) l (inl (k, subst (λ (z : Term). AreDisjointRoles axioms q (Inverse z)) j h))))
  met s (asked.RoleBoth n x y) (fact.Attr m c z) i j = absurd j
  met s (asked.RoleFromExcept n a b) (fact.Class m c) i j = absurd j
  met s (asked.RoleFromExcept n a b) (fact.Role m c d) (q, e, h) (j, k, ne) = (OfRole c d (Direct m), one_start m c d, at_start s (OfRole a b q) (OfRole c d (Direct m)) e (kind_meet (OfRole a b q) (OfRole c d (Direct m)) k (inr (ne, subst (λ (z : Term). ShareFunctionalRole axioms q (Direct z)) j h))))
  met s (asked.RoleFromExcept n a b) (fact.Attr m c z) i j = absurd j
  met s (asked.RoleToExcept n a b) (fact.Class m c) i j = absurd j
  met s (asked.RoleToExcept n a b) (fact.Role m c d) (q, e, h) (j, k, ne) = (OfRole d c (Inverse m), other_start m c d, at_start s (OfRole a b q) (OfRole d c (Inverse m)) e (kind_meet (OfRole a b q) (OfRole d c (Inverse m)) k (inr (ne, subst (λ (z : Term). ShareFunctionalRole axioms q (Inverse z)) j h))))
  met s (asked.RoleToExcept n a b) (fact.Attr m c z) i j = absurd j
  met s (asked.Attr n) (fact.Class m c) i j = absurd i
  met s (asked.Attr n) (fact.Role m c d) i j = absurd i
  met s (asked.Attr n) (fact.Attr m c z) i j = absurd i
  met s (asked.AttrOf n a) (fact.Class m c) i j = absurd j
  met s (asked.AttrOf n a) (fact.Role m c d) i j = absurd j
  met s (asked.AttrOf n a) (fact.Attr m c z) (i, w) (j, k) = (OfAttr c z m, here (OfAttr c z m) [], concept_meet s (OfAttr c z m) (sym i ∙ k) (subst (λ (o : Term). AreDisjointConcepts axioms (concept s) (basic.Domain o)) j w))
  met s (asked.AttrValue n v) (fact.Class m c) i j = absurd i
  met s (asked.AttrValue n v) (fact.Role m c d) i j = absurd i
  met s (asked.AttrValue n v) (fact.Attr m c z) i j = absurd i
  met s (asked.AttrBoth n a v) (fact.Class m c) i j = absurd j
  met s (asked.AttrBoth n a v) (fact.Role m c d) i j = absurd j
  met s (asked.AttrBoth n a v) (fact.Attr m c z) (u, e, h) (j, k, l) = (OfAttr c z m, here (OfAttr c z m) [], at_start s (OfAttr a v u) (OfAttr c z m) e (kind_meet (OfAttr a v u) (OfAttr c z m) k (inl (l, subst (AreDisjointAttrs axioms u) j h))))
  met s (asked.AttrOfExcept n a v) (fact.Class m c) i j = absurd j
  met s (asked.AttrOfExcept n a v) (fact.Role m c d) i j = absurd j
  met s (asked.AttrOfExcept n a v) (fact.Attr m c z) (u, e, h) (j, k, ne) = (OfAttr c z m, here (OfAttr c z m) [], at_start s (OfAttr a v u) (OfAttr c z m) e (kind_meet (OfAttr a v u) (OfAttr c z m) k (inr (ne, subst (ShareFunctionalAttr axioms u) j h))))

  roles_turned : (q r : RoleSide) → ShareFunctionalRole axioms q r → ShareFunctionalRole axioms r q
  roles_turned q r (it, m, (v, x, h, l)) = (it, m, (v, x, l, h))

  attrs_turned : (u w : Term) → ShareFunctionalAttr axioms u w → ShareFunctionalAttr axioms w u
  attrs_turned u w (it, m, (v, x, h, l)) = (it, m, (v, x, l, h))

  -- a row whose value's datatype is not a range
  abbrev Out : Start → Type 0
  Out (OfConcept a b) = ⊥
  Out (OfRole a b q) = ⊥
  Out (OfAttr a x u) = (d : List ℕ) × IsRange axioms u d × (x.datatype ≢ d)

  out_collides : (s : Start) → Out s → Collide axioms s s
  out_collides (OfConcept a b) h = absurd h
  out_collides (OfRole a b q) h = absurd h
  out_collides (OfAttr a x u) (d, (v, m, h), ne) = e.range a x u u v d refl refl m ne h h

  abbrev Met : Start → Start → Type 0
  Met s t = AreDisjointConcepts axioms (concept s) (concept t) ⊎ (KindsClash axioms s t ⊎ (Out s ⊎ Out t))

  out_range : (a c : List ℕ) (x : Value) (u w : Term) → SomeAxiom axioms (RangesAttrs axioms u w x.datatype) → Out (OfAttr a x u)
  out_range a c x u w (it, m, (v, d, z, ne, h, l)) = (d, (v, subst (Contains axioms) z m, h), ne)

  kind_forth : (s t : Start) → KindWhy axioms s t → KindsClash axioms s t ⊎ (Out s ⊎ Out t)
  kind_forth (OfConcept a b) t h = absurd h
  kind_forth (OfRole a b q) (OfConcept c d) h = absurd h
  kind_forth (OfRole a b q) (OfRole c d r) (inl (j, h)) = inl (inl (j, inl h))
  kind_forth (OfRole a b q) (OfRole c d r) (inr h) = inl (inr h)
  kind_forth (OfRole a b q) (OfAttr c y w) h = absurd h
  kind_forth (OfAttr a x u) (OfConcept c d) h = absurd h
  kind_forth (OfAttr a x u) (OfRole c d r) h = absurd h
  kind_forth (OfAttr a x u) (OfAttr c y w) (inl (j, inl h)) = inl (inl (j, inl h))
  kind_forth (OfAttr a x u) (OfAttr c y w) (inl (j, inr h)) = inr (inl (out_range a c x u w h))
  kind_forth (OfAttr a x u) (OfAttr c y w) (inr h) = inl (inr h)

  kind_back : (s t : Start) → KindWhy axioms t s → KindsClash axioms s t ⊎ (Out s ⊎ Out t)
  kind_back (OfConcept a b) (OfConcept c d) h = absurd h
  kind_back (OfConcept a b) (OfRole c d r) h = absurd h
  kind_back (OfConcept a b) (OfAttr c y w) h = absurd h
  kind_back (OfRole a b q) (OfConcept c d) h = absurd h
  kind_back (OfRole a b q) (OfRole c d r) (inl (j, h)) = inl (inl (sym j, inr h))
  kind_back (OfRole a b q) (OfRole c d r) (inr (ne, h)) = inl (inr (λ k. ne (sym k), roles_turned r q h))
  kind_back (OfRole a b q) (OfAttr c y w) h = absurd h
  kind_back (OfAttr a x u) (OfConcept c d) h = absurd h
  kind_back (OfAttr a x u) (OfRole c d r) h = absurd h
  kind_back (OfAttr a x u) (OfAttr c y w) (inl (j, inl h)) = inl (inl (sym j, inr h))
  kind_back (OfAttr a x u) (OfAttr c y w) (inl (j, inr h)) = inr (inr (out_range c a y w u h))
  kind_back (OfAttr a x u) (OfAttr c y w) (inr (ne, h)) = inl (inr (λ k. ne (sym k), attrs_turned w u h))

  cross_subject : (s t : Start) → Cross s t → subject s ≡ subject t
  cross_subject s t h = ⊎_elim (λ x. collide_subject axioms s t x) (λ x. sym (collide_subject axioms t s x)) h

  cross_met : (s t : Start) → Cross s t → Met s t
  cross_met s t (inl h) = ⊎_elim (λ x. inl (inl x)) (λ y. inr (kind_forth s t y)) ((collide_why axioms s t (collide_subject axioms s t h)).0 h)
  cross_met s t (inr h) = ⊎_elim (λ x. inl (inr x)) (λ y. inr (kind_back s t y)) ((collide_why axioms t s (collide_subject axioms t s h)).0 h)

  -- and the other way: the guard that the fact of the other start row matches
  abbrev Found : Start → Fact → Type 0
  Found s g = (p : Pattern) × IsGuard axioms s p × Matches p g

  of_role : (s : Start) (m : Term) (c d : List ℕ) → subject s ≡ c → KindsClash axioms s (OfRole c d (Direct m)) → Found s (fact.Role m c d)
  of_role (OfConcept a b) m c d i h = absurd h
  of_role (OfRole a b q) m c d i (inl (j, h)) = (asked.RoleBoth m a b, (q, inl (refl, h)), (refl, i, j))
  of_role (OfRole a b q) m c d i (inr (ne, h)) = (asked.RoleFromExcept m a b, (q, refl, h), (refl, i, ne))
  of_role (OfAttr a x u) m c d i h = absurd h

  of_turned : (s : Start) (m : Term) (c d : List ℕ) → subject s ≡ d → KindsClash axioms s (OfRole d c (Inverse m)) → Found s (fact.Role m c d)
  of_turned (OfConcept a b) m c d i h = absurd h
  of_turned (OfRole a b q) m c d i (inl (j, h)) = (asked.RoleBoth m b a, (q, inr (refl, h)), (refl, j, i))
  of_turned (OfRole a b q) m c d i (inr (ne, h)) = (asked.RoleToExcept m a b, (q, refl, h), (refl, i, ne))
  of_turned (OfAttr a x u) m c d i h = absurd h

  of_attr : (s : Start) (m : Term) (c : List ℕ) (z : Value) → subject s ≡ c → KindsClash axioms s (OfAttr c z m) → Found s (fact.Attr m c z)
  of_attr (OfConcept a b) m c z i h = absurd h
  of_attr (OfRole a b q) m c z i h = absurd h
  of_attr (OfAttr a x u) m c z i (inl (j, h)) = (asked.AttrBoth m a x, (u, refl, h), (refl, i, j))
  of_attr (OfAttr a x u) m c z i (inr (ne, h)) = (asked.AttrOfExcept m a x, (u, refl, h), (refl, i, ne))

  of_class : (s : Start) (m : Term) (c : List ℕ) → KindsClash axioms s (OfConcept c (basic.Class m)) → ⊥
  of_class (OfConcept a b) m c h = h
  of_class (OfRole a b q) m c h = h
  of_class (OfAttr a x u) m c h = h

  found : (s : Start) (g : Fact) (t : Start) → Contains (starts g) t → subject s ≡ subject t → AreDisjointConcepts axioms (concept s) (concept t) ⊎ KindsClash axioms s t → Found s g
  found s (fact.Class m c) t n i h =
      let is = alone (OfConcept c (basic.Class m)) t n in
      ⊎_elim
      (λ k. (asked.ClassOf m (subject s), (refl, subst (λ z. AreDisjointConcepts axioms (concept s) (concept z)) (sym is) k), (refl, i ∙ sym (ap subject is))))
      (λ k. absurd (of_class s m c (subst (KindsClash axioms s) (sym is) k))) h
  found s (fact.Role m c d) t n i h =
      ⊎_elim
      (λ is. ⊎_elim
      (λ k. (asked.RoleFrom m (subject s), (refl, subst (λ z. AreDisjointConcepts axioms (concept s) (concept z)) (sym is) k), (refl, i ∙ sym (ap subject is))))
      (λ k. of_role s m c d (i ∙ sym (ap subject is)) (subst (KindsClash axioms s) (sym is) k)) h)
      (λ last. let is = alone (OfRole d c (Inverse m)) t last in
      ⊎_elim
      (λ k. (asked.RoleTo m (subject s), (refl, subst (λ z. AreDisjointConcepts axioms (concept s) (concept z)) (sym is) k), (refl, i ∙ sym (ap subject is))))
      (λ k. of_turned s m c d (i ∙ sym (ap subject is)) (subst (KindsClash axioms s) (sym is) k)) h)
      (cons_cases (OfRole c d (Direct m)) (OfRole d c (Inverse m) ∷ []) t n)
  found s (fact.Attr m c z) t n i h =
      let is = alone (OfAttr c z m) t n in
      ⊎_elim
      (λ k. (asked.AttrOf m (subject s), (refl, subst (λ o. AreDisjointConcepts axioms (concept s) (concept o)) (sym is) k), (refl, i ∙ sym (ap subject is))))
      (λ k. of_attr s m c z (i ∙ sym (ap subject is)) (subst (KindsClash axioms s) (sym is) k)) h

  own_clash : (f : Fact) (s : Start) → Contains (starts f) s → Out s → HasClash axioms (f ∷ [])
  own_clash f s m k = (alone_clash axioms f).1 (s, s, m, m, inr (out_collides s k))

  pub guards_exact : (f g : Fact) → ¬ HasClash axioms (f ∷ []) → ¬ HasClash axioms (g ∷ []) → IsGuarded axioms f g ↔ HasClash axioms (f ∷ g ∷ [])
  guards_exact f g one two = (
    λ (p, (s, m, h), k). let t = met s p g h k in (pair_clash axioms f g one two).1 (s, t.0, m, t.1, t.2),
    λ h.
        let p = (pair_clash axioms f g one two).0 h in
        let guard : AreDisjointConcepts axioms (concept p.0) (concept p.1) ⊎ KindsClash axioms p.0 p.1 → IsGuarded axioms f g = λ k. let o = found p.0 g p.1 p.3 (cross_subject p.0 p.1 p.4) k in (o.0, (p.0, p.2, o.1), o.2) in
        ⊎_elim (λ k. guard (inl k)) (λ k. ⊎_elim (λ l. guard (inr l)) (λ l. absurd (⊎_elim (λ x. one (own_clash f p.0 p.2 x)) (λ x. two (own_clash g p.1 p.3 x)) l)) k) (cross_met p.0 p.1 p.4),
  )

  either_cross : (s t : Start) → StartsClash axioms s t → Cross s t
  either_cross s t (i, k) = ⊎_elim (λ x. concept_meet s t i x) (λ y. kind_meet s t i y) k

  -- two facts without a clash of their own
  pub clash_of_pair : (f g : Fact) → ¬ HasClash axioms (f ∷ []) → ¬ HasClash axioms (g ∷ []) → FactsClash axioms f g ↔ HasClash axioms (f ∷ g ∷ [])
  clash_of_pair f g one two = (
    λ (s, m, (t, n, k)). (pair_clash axioms f g one two).1 (s, t, m, n, either_cross s t k),
    λ h.
        let p = (pair_clash axioms f g one two).0 h in
        let same = cross_subject p.0 p.1 p.4 in
        ⊎_elim (λ k. (p.0, p.2, (p.1, p.3, (same, inl k))))
        (λ k. ⊎_elim (λ l. (p.0, p.2, (p.1, p.3, (same, inr l)))) (λ l. absurd (⊎_elim (λ x. one (own_clash f p.0 p.2 x)) (λ x. two (own_clash g p.1 p.3 x)) l)) k)
        (cross_met p.0 p.1 p.4),
  )

  out_breaks : (f : Fact) (s : Start) → Contains (starts f) s → Out s → BreaksRange axioms f
  out_breaks (fact.Class c a) s m h = subst Out (sym (alone (OfConcept a (basic.Class c)) s m)) h
  out_breaks (fact.Role p a b) s m h = ⊎_elim
      (λ is. subst Out (sym is) h)
      (λ last. subst Out (sym (alone (OfRole b a (Inverse p)) s last)) h)
      (cons_cases (OfRole a b (Direct p)) (OfRole b a (Inverse p) ∷ []) s m)
  out_breaks (fact.Attr u a v) s m h = subst Out (sym (alone (OfAttr a v u) s m)) h

  breaks_clash : (f : Fact) → BreaksRange axioms f → HasClash axioms (f ∷ [])
  breaks_clash (fact.Class c a) h = absurd h
  breaks_clash (fact.Role p a b) h = absurd h
  breaks_clash (fact.Attr u a v) h = own_clash (fact.Attr u a v) (OfAttr a v u) (here (OfAttr a v u) []) h

  -- one fact
  pub clash_of_one : (f : Fact) → (IsUnsatisfiableFact axioms f ⊎ (BreaksRange axioms f ⊎ FactsClash axioms f f)) ↔ HasClash axioms (f ∷ [])
  clash_of_one f = (
    λ h. ⊎_elim
        (λ (s, m, k). (alone_clash axioms f).1 (s, s, m, m, inl k))
        (λ r. ⊎_elim
        (λ k. breaks_clash f k)
        (λ (s, m, (t, n, k)). ⊎_elim (λ x. (alone_clash axioms f).1 (s, t, m, n, inr x)) (λ x. (alone_clash axioms f).1 (t, s, n, m, inr x)) (either_cross s t k))
        r)
        h,
    λ h.
        let p = (alone_clash axioms f).0 h in
        ⊎_elim (λ k. inl (p.0, p.2, k))
        (λ k.
        let same = collide_subject axioms p.0 p.1 k in
        ⊎_elim (λ x. inr (inr (p.0, p.2, (p.1, p.3, (same, inl x)))))
        (λ x. ⊎_elim (λ y. inr (inr (p.0, p.2, (p.1, p.3, (same, inr y)))))
        (λ y. inr (inl (⊎_elim (λ z. out_breaks f p.0 p.2 z) (λ z. out_breaks f p.1 p.3 z) y))) x)
        (cross_met p.0 p.1 (inl k)))
        p.4,
  )
