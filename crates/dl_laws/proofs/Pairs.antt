-- Clashes of one fact and of two, by their start rows.
use Rattle.std.proofs.Common.{◌≡◌, List, [], ◌∷◌, sym, subst, ap, inl, inr, ◌⊎◌, ⊎_elim, ◌∙◌}
use Rattle.std.specs.Prelude.{◌↔◌, Contains}
use Rattle.dl_base.specs.declared.axioms.Axiom.{Axiom}
use Rattle.dl_base.specs.declared.statements.Fact.{Fact}
use Rattle.dl_base.specs.Clash.{HasClash}
use Rattle.dl_base.proofs.Members.{here, there, alone, cons_cases}
use Rattle.dl_laws.specs.Rows.{Oppose, Start, row, subject, concept, starts}
use Rattle.dl_laws.specs.Emptiness as e
use Rattle.dl_laws.specs.Emptiness.{IsUnsatisfiable, Collide}
use Rattle.dl_laws.proofs.RowLaws.{clash_opposed, opposed_clash}
use Rattle.dl_laws.proofs.Saying.{opposed_is}
use Rattle.dl_laws.proofs.Emptying.{impossible_start, collide_opposes}

-- start rows of equal things are about one individual
pub collide_subject : (axioms : List Axiom) (s t : Start) → Collide axioms s t → subject s ≡ subject t
collide_subject axioms s t (e.concepts b k i m h j) = i
collide_subject axioms s t (e.roles a b q r v w i j m h l) = ap subject i ∙ sym (ap subject j)
collide_subject axioms s t (e.attrs a x q r v w i j m h l) = ap subject i ∙ sym (ap subject j)
collide_subject axioms s t (e.partners a x y q r v i j m ne h l) = ap subject i ∙ sym (ap subject j)
collide_subject axioms s t (e.values a x y q r v i j m ne h l) = ap subject i ∙ sym (ap subject j)
collide_subject axioms s t (e.range a x q r v k i j m ne h l) = ap subject i ∙ sym (ap subject j)

module _ (axioms : List Axiom) where
  -- two of the fact's start rows collide, or one is impossible
  abbrev pub IsSelfClash : Fact → Type 0
  IsSelfClash f = (s : Start) × (t : Start) × Contains (starts f) s × Contains (starts f) t × (IsUnsatisfiable axioms (concept s) ⊎ Collide axioms s t)

  pub alone_clash : (f : Fact) → HasClash axioms (f ∷ []) ↔ IsSelfClash f
  alone_clash f = (
    λ h.
        let p = clash_opposed axioms (f ∷ []) h in
        (p.2, p.3, subst (λ z. Contains (starts z) p.2) (sym (alone f p.0 p.4)) p.6, subst (λ z. Contains (starts z) p.3) (sym (alone f p.1 p.5)) p.7, opposed_is axioms p.2 p.3 p.8),
    λ (s, t, m, n, k). ⊎_elim
        (λ x. opposed_clash axioms (f ∷ []) (f, f, s, s, here f [], here f [], m, m, impossible_start axioms s x))
        (λ x. opposed_clash axioms (f ∷ []) (f, f, s, t, here f [], here f [], m, n, collide_opposes axioms s t x))
        k,
  )

  -- a start row of the one collides with one of the other
  abbrev pub IsCross : Fact → Fact → Type 0
  IsCross f g = (s : Start) × (t : Start) × Contains (starts f) s × Contains (starts g) t × (Collide axioms s t ⊎ Collide axioms t s)

  abbrev Either : Fact → Fact → Type 0
  Either f g = HasClash axioms (f ∷ []) ⊎ (HasClash axioms (g ∷ []) ⊎ IsCross f g)

  one_fact : (f : Fact) (s t : Start) → Contains (starts f) s → Contains (starts f) t → Oppose axioms (row s) (row t) → HasClash axioms (f ∷ [])
  one_fact f s t m n k = opposed_clash axioms (f ∷ []) (f, f, s, t, here f [], here f [], m, n, k)

  is_unsatisfiable : (f : Fact) (s : Start) → Contains (starts f) s → IsUnsatisfiable axioms (concept s) → HasClash axioms (f ∷ [])
  is_unsatisfiable f s m k = one_fact f s s m m (impossible_start axioms s k)

  of_two : (f g x y : Fact) (s t : Start) → (f ≡ x) ⊎ (g ≡ x) → (f ≡ y) ⊎ (g ≡ y) → Contains (starts x) s → Contains (starts y) t → Oppose axioms (row s) (row t) → Either f g
  of_two f g x y s t (inl i) (inl j) m n k = inl (one_fact f s t (subst (λ z. Contains (starts z) s) (sym i) m) (subst (λ z. Contains (starts z) t) (sym j) n) k)
  of_two f g x y s t (inr i) (inr j) m n k = inr (inl (one_fact g s t (subst (λ z. Contains (starts z) s) (sym i) m) (subst (λ z. Contains (starts z) t) (sym j) n) k))
  of_two f g x y s t (inl i) (inr j) m n k =
      let at = subst (λ z. Contains (starts z) s) (sym i) m in
      ⊎_elim (λ h. inl (is_unsatisfiable f s at h)) (λ h. inr (inr (s, t, at, subst (λ z. Contains (starts z) t) (sym j) n, inl h))) (opposed_is axioms s t k)
  of_two f g x y s t (inr i) (inl j) m n k =
      let at = subst (λ z. Contains (starts z) s) (sym i) m in
      ⊎_elim (λ h. inr (inl (is_unsatisfiable g s at h))) (λ h. inr (inr (t, s, subst (λ z. Contains (starts z) t) (sym j) n, at, inr h))) (opposed_is axioms s t k)

  among_two : (f g x : Fact) → Contains (f ∷ g ∷ []) x → (f ≡ x) ⊎ (g ≡ x)
  among_two f g x m = ⊎_elim (λ i. inl i) (λ n. inr (alone g x n)) (cons_cases f (g ∷ []) x m)

  either : (f g : Fact) → HasClash axioms (f ∷ g ∷ []) → Either f g
  either f g h =
      let p = clash_opposed axioms (f ∷ g ∷ []) h in
      of_two f g p.0 p.1 p.2 p.3 (among_two f g p.0 p.4) (among_two f g p.1 p.5) p.6 p.7 p.8

  pub cross_clash : (f g : Fact) → IsCross f g → HasClash axioms (f ∷ g ∷ [])
  cross_clash f g (s, t, m, n, k) =
      let one = here f (g ∷ []) in
      let two = there f (g ∷ []) g (here g []) in
      ⊎_elim
      (λ h. opposed_clash axioms (f ∷ g ∷ []) (f, g, s, t, one, two, m, n, collide_opposes axioms s t h))
      (λ h. opposed_clash axioms (f ∷ g ∷ []) (g, f, t, s, two, one, n, m, collide_opposes axioms t s h))
      k

  -- two facts without a clash of their own
  pub pair_clash : (f g : Fact) → ¬ HasClash axioms (f ∷ []) → ¬ HasClash axioms (g ∷ []) → HasClash axioms (f ∷ g ∷ []) ↔ IsCross f g
  pair_clash f g one two = (λ h. ⊎_elim (λ x. absurd (one x)) (λ y. ⊎_elim (λ x. absurd (two x)) (λ z. z) y) (either f g h), cross_clash f g)

  -- they share a named individual
  pub clash_shares : (f g : Fact) → ¬ HasClash axioms (f ∷ []) → ¬ HasClash axioms (g ∷ []) → HasClash axioms (f ∷ g ∷ [])
      → (s : Start) × (t : Start) × Contains (starts f) s × Contains (starts g) t × (subject s ≡ subject t)
  clash_shares f g one two h =
      let p = (pair_clash f g one two).0 h in
      (p.0, p.1, p.2, p.3, ⊎_elim (λ x. collide_subject axioms p.0 p.1 x) (λ x. sym (collide_subject axioms p.1 p.0 x)) p.4)
