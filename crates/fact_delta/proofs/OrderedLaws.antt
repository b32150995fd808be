-- Insertion into an ordered list, and removal from one.
use Rattle.std.proofs.Common.{◌≡◌, suc, Bool, true, false, cond, List, [], ◌∷◌, length, refl, sym, ◌∙◌, ap, subst, inl, inr, ◌⊎◌, ⊎_elim}
use Rattle.std.specs.Prelude.{Contains}
use Rattle.std.specs.BTreeSet.{insert_key}
use Rattle.std.specs.Cmp.{IsTotalOrder}
use Rattle.std.specs.List.Sorted.{IsStrictlySortedBy}
use Rattle.std.specs.List.{AllByRecursion}
use Rattle.std.specs.Ordering.{match_ordering, ordering_reverse, is_eq}
use Rattle.std.specs.Set.{remove_key}
use Rattle.std.proofs.lemmas.Cmp.{tied_itself}
use Rattle.std.proofs.lemmas.Bool.{false≢true}
use Rattle.std.specs.declared.cmp.Ordering.{Ordering}
use Rattle.std.specs.declared.cmp.Ordering.TheVariants.{Less, Equal, Greater}
use Rattle.dl_base.proofs.Members.{here, there, nowhere, cons_cases}
use Rattle.dl_base.proofs.SortedLaws.{all_at, all_of}

module _ {X : Type 0} (c : X → X → Ordering) (total : IsTotalOrder c) (exact : (x y : X) → c x y ≡ Equal → x ≡ y) where
  abbrev Placed : Ordering → X → X → List X → List X → List X
  Placed o k x xs rest = match_ordering o (k ∷ x ∷ xs) (x ∷ xs) (x ∷ rest)

  from_placed : (o : Ordering) (k x : X) (xs rest : List X) (y : X) → (Contains rest y → (k ≡ y) ⊎ Contains xs y) → Contains (Placed o k x xs rest) y → (k ≡ y) ⊎ Contains (x ∷ xs) y
  from_placed Less k x xs rest y f m = cons_cases k (x ∷ xs) y m
  from_placed Equal k x xs rest y f m = inr m
  from_placed Greater k x xs rest y f m = ⊎_elim (λ e. inr (subst (Contains (x ∷ xs)) e (here x xs))) (λ r. ⊎_elim inl (λ l. inr (there x xs y l)) (f r)) (cons_cases x rest y m)

  pub from_insert : (xs : List X) (k y : X) → Contains (insert_key c xs k) y → (k ≡ y) ⊎ Contains xs y
  from_insert [] k y m = cons_cases k [] y m
  from_insert (x ∷ xs) k y m = from_placed (c k x) k x xs (insert_key c xs k) y (from_insert xs k y) m

  into_placed : (o : Ordering) (k x : X) (xs rest : List X) (y : X) → c k x ≡ o → ((k ≡ y) ⊎ Contains xs y → Contains rest y) → (k ≡ y) ⊎ Contains (x ∷ xs) y → Contains (Placed o k x xs rest) y
  into_placed Less k x xs rest y e f (inl s) = subst (Contains (k ∷ x ∷ xs)) s (here k (x ∷ xs))
  into_placed Less k x xs rest y e f (inr m) = there k (x ∷ xs) y m
  into_placed Equal k x xs rest y e f (inl s) = subst (Contains (x ∷ xs)) (sym (exact k x e) ∙ s) (here x xs)
  into_placed Equal k x xs rest y e f (inr m) = m
  into_placed Greater k x xs rest y e f (inl s) = there x rest y (f (inl s))
  into_placed Greater k x xs rest y e f (inr m) = ⊎_elim (λ s. subst (Contains (x ∷ rest)) s (here x rest)) (λ n. there x rest y (f (inr n))) (cons_cases x xs y m)

  pub into_insert : (xs : List X) (k y : X) → (k ≡ y) ⊎ Contains xs y → Contains (insert_key c xs k) y
  into_insert [] k y (inl e) = subst (Contains (k ∷ [])) e (here k [])
  into_insert [] k y (inr m) = absurd (nowhere y m)
  into_insert (x ∷ xs) k y h = into_placed (c k x) k x xs (insert_key c xs k) y refl (into_insert xs k y) h

  sorted_placed : (o : Ordering) (k x : X) (xs : List X) → c k x ≡ o → IsStrictlySortedBy c (x ∷ xs) → IsStrictlySortedBy c (insert_key c xs k) → IsStrictlySortedBy c (Placed o k x xs (insert_key c xs k))
  unfolding IsStrictlySortedBy
  sorted_placed Less k x xs e s r = ((e, all_of (λ z. c k z ≡ Less) xs (λ z m. total.trans k x z e (all_at (λ w. c x w ≡ Less) xs z s.0 m))), s)
  sorted_placed Equal k x xs e s r = s
  sorted_placed Greater k x xs e s r =
      let back : c x k ≡ Less = total.antisymm x k ∙ ap ordering_reverse e in
      (all_of (λ z. c x z ≡ Less) (insert_key c xs k) (λ z m. ⊎_elim (λ q. subst (λ w. c x w ≡ Less) q back) (all_at (λ w. c x w ≡ Less) xs z s.0) (from_insert xs k z m)), r)

  pub sorted_insert : (xs : List X) (k : X) → IsStrictlySortedBy c xs → IsStrictlySortedBy c (insert_key c xs k)
  unfolding IsStrictlySortedBy
  sorted_insert [] k s = (tt, tt)
  sorted_insert (x ∷ xs) k s = sorted_placed (c k x) k x xs refl s (sorted_insert xs k s.1)

  length_placed : (o : Ordering) (k x : X) (xs rest : List X) → c k x ≡ o → (¬ Contains (x ∷ xs) k) → length rest ≡ suc (length xs) → length (Placed o k x xs rest) ≡ suc (suc (length xs))
  length_placed Less k x xs rest e n h = refl
  length_placed Equal k x xs rest e n h = absurd (n (subst (Contains (x ∷ xs)) (sym (exact k x e)) (here x xs)))
  length_placed Greater k x xs rest e n h = ap suc h

  pub length_insert : (xs : List X) (k : X) → (¬ Contains xs k) → length (insert_key c xs k) ≡ suc (length xs)
  length_insert [] k n = refl
  length_insert (x ∷ xs) k n = length_placed (c k x) k x xs (insert_key c xs k) refl n (length_insert xs k (λ m. n (there x xs k m)))

  is_equal : (o : Ordering) → is_eq o ≡ true → o ≡ Equal
  is_equal Less e = absurd (false≢true e)
  is_equal Equal e = refl
  is_equal Greater e = absurd (false≢true e)

  same_by : (k x : X) → is_eq (c k x) ≡ true → k ≡ x
  same_by k x e = exact k x (is_equal (c k x) e)

  not_by : (k x : X) → is_eq (c k x) ≡ false → k ≡ x → ⊥
  not_by k x e s = false≢true (sym e ∙ ap is_eq (subst (λ z. c k z ≡ Equal) s (tied_itself total k)))

  not_after : (x y : X) → c x y ≡ Less → x ≡ y → ⊥
  not_after x y l s = let t : c x x ≡ Equal = tied_itself total x in let u : c x x ≡ Less = subst (λ z. c x z ≡ Less) (sym s) l in cc

  -- the key isn't among the later ones
  pub not_later : (x : X) (xs : List X) → IsStrictlySortedBy c (x ∷ xs) → ¬ Contains xs x
  unfolding IsStrictlySortedBy
  not_later x xs s m = not_after x x (all_at (λ z. c x z ≡ Less) xs x s.0 m) refl

  abbrev pub removed : X → List X → List X
  removed k xs = remove_key (λ x. is_eq (c k x)) xs

  from_cut : (b : Bool) (k x : X) (xs rest : List X) (y : X) → is_eq (c k x) ≡ b → AllByRecursion (λ z. c x z ≡ Less) xs → (Contains rest y → Contains xs y × ¬ (k ≡ y)) → Contains (cond b xs (x ∷ rest)) y → Contains (x ∷ xs) y × ¬ (k ≡ y)
  from_cut true k x xs rest y e a f m = (there x xs y m, λ s. not_after x y (all_at (λ z. c x z ≡ Less) xs y a m) (sym (same_by k x e) ∙ s))
  from_cut false k x xs rest y e a f m = ⊎_elim
      (λ h. (subst (Contains (x ∷ xs)) h (here x xs), λ s. not_by k x e (s ∙ sym h)))
      (λ h. let r = f h in (there x xs y r.0, r.1))
      (cons_cases x rest y m)

  pub from_removed : (xs : List X) (k y : X) → IsStrictlySortedBy c xs → Contains (removed k xs) y → Contains xs y × ¬ (k ≡ y)
  unfolding IsStrictlySortedBy
  from_removed [] k y s m = absurd (nowhere y m)
  from_removed (x ∷ xs) k y s m = from_cut (is_eq (c k x)) k x xs (removed k xs) y refl s.0 (from_removed xs k y s.1) m

  into_cut : (b : Bool) (k x : X) (xs rest : List X) (y : X) → is_eq (c k x) ≡ b → ¬ (k ≡ y) → (Contains xs y → Contains rest y) → Contains (x ∷ xs) y → Contains (cond b xs (x ∷ rest)) y
  into_cut true k x xs rest y e n f m = ⊎_elim (λ h. absurd (n (same_by k x e ∙ h))) (λ h. h) (cons_cases x xs y m)
  into_cut false k x xs rest y e n f m = ⊎_elim (λ h. subst (Contains (x ∷ rest)) h (here x rest)) (λ h. there x rest y (f h)) (cons_cases x xs y m)

  pub into_removed : (xs : List X) (k y : X) → Contains xs y → ¬ (k ≡ y) → Contains (removed k xs) y
  into_removed [] k y m n = absurd (nowhere y m)
  into_removed (x ∷ xs) k y m n = into_cut (is_eq (c k x)) k x xs (removed k xs) y refl n (λ h. into_removed xs k y h n) m

  sorted_cut : (b : Bool) (x : X) (xs rest : List X) → IsStrictlySortedBy c (x ∷ xs) → IsStrictlySortedBy c rest → ((y : X) → Contains rest y → Contains xs y) → IsStrictlySortedBy c (cond b xs (x ∷ rest))
  unfolding IsStrictlySortedBy
  sorted_cut true x xs rest s r f = s.1
  sorted_cut false x xs rest s r f = (all_of (λ z. c x z ≡ Less) rest (λ y m. all_at (λ z. c x z ≡ Less) xs y s.0 (f y m)), r)

  pub sorted_removed : (xs : List X) (k : X) → IsStrictlySortedBy c xs → IsStrictlySortedBy c (removed k xs)
  unfolding IsStrictlySortedBy
  sorted_removed [] k s = tt
  sorted_removed (x ∷ xs) k s = sorted_cut (is_eq (c k x)) x xs (removed k xs) s (sorted_removed xs k s.1) (λ y m. (from_removed xs k y s.1 m).0)

  length_cut : (b : Bool) (k x : X) (xs rest : List X) → is_eq (c k x) ≡ b → Contains (x ∷ xs) k → (Contains xs k → suc (length rest) ≡ length xs) → suc (length (cond b xs (x ∷ rest))) ≡ suc (length xs)
  length_cut true k x xs rest e m f = refl
  length_cut false k x xs rest e m f = ap suc (⊎_elim (λ h. absurd (not_by k x e (sym h))) (λ h. f h) (cons_cases x xs k m))

  pub length_removed : (xs : List X) (k : X) → Contains xs k → suc (length (removed k xs)) ≡ length xs
  length_removed [] k m = absurd (nowhere k m)
  length_removed (x ∷ xs) k m = length_cut (is_eq (c k x)) k x xs (removed k xs) refl m (length_removed xs k)
