-- The transactions begun, as a list of which one is looked up, put in the place of another, or taken out.
use Rattle.std.proofs.Common.{◌≡◌, ℕ, zero, suc, ◌<◌, ◌≤◌, ◌+◌, Bool, true, false, cond, List, [], ◌∷◌, ◌++◌, Option, Some, None, length, take, drop, refl, sym, ◌∙◌, ap, subst, inl, inr, ◌⊎◌, ⊎_elim, arith}
use Rattle.std.specs.Prelude.{map, nat_eq, slice_get, slice_set}
use Rattle.std.specs.List.{insert, remove}
use Rattle.std.proofs.lemmas.Bool.Decides.{eqb_tells}
use Rattle.std.proofs.lemmas.Option.{same_Some, slice_get_within}
use Rattle.std.proofs.lemmas.Bool.{cases_lt}
use Rattle.transaction.specs.Holding.{Held, HoldsAt, NoneBefore, IsPlaceOf, begun_of}
use Rattle.transaction.specs.Serving.{Open}
use Rattle.transaction.specs.Worlds.{Begun, of_editor, with_one, without}

module _ {X : Type 0} where
  -- what stands in the list after a write
  pub get_set : (xs : List X) (i k : ℕ) (v x : X) → slice_get (slice_set xs i v) k ≡ Some x → (v ≡ x) ⊎ (slice_get xs k ≡ Some x)
  get_set [] i k v x e = inr e
  get_set (y ∷ xs) zero zero v x e = inl (same_Some v x e)
  get_set (y ∷ xs) zero (suc k) v x e = inr e
  get_set (y ∷ xs) (suc i) zero v x e = inr e
  get_set (y ∷ xs) (suc i) (suc k) v x e = get_set xs i k v x e

  -- what stands in it after one was taken out
  pub get_removed : (xs : List X) (i k : ℕ) (x : X) → slice_get (remove xs i) k ≡ Some x → (j : ℕ) × (slice_get xs j ≡ Some x)
  get_removed [] zero k x e = (k, e)
  get_removed [] (suc i) k x e = (k, e)
  get_removed (y ∷ xs) zero k x e = (suc k, e)
  get_removed (y ∷ xs) (suc i) zero x e = (zero, e)
  get_removed (y ∷ xs) (suc i) (suc k) x e = let r = get_removed xs i k x e in (suc r.0, r.1)

  -- put in again, it stands as before
  pub put_again : (xs : List X) (i : ℕ) (x : X) → slice_get xs i ≡ Some x → insert (remove xs i) i x ≡ xs
  put_again [] i x e = absurd (let no : ⊥ = cc in no)
  put_again (y ∷ xs) zero x e = ap (λ z. z ∷ xs) (sym (same_Some y x e))
  put_again (y ∷ xs) (suc i) x e = ap (λ zs. y ∷ zs) (put_again xs i x e)

  pub map_push : {Y : Type 0} (f : X → Y) (xs : List X) (x : X) → map f (xs ++ x ∷ []) ≡ map f xs ++ f x ∷ []
  map_push f [] x = refl
  map_push f (y ∷ xs) x = ap (λ zs. f y ∷ zs) (map_push f xs x)

module _ (editor : ℕ) where
  -- the editor's, with this transaction
  abbrev pub held : Open → Held
  held t = record { editor = editor; transaction = t }

  is_own : (n : ℕ) → n ≡ editor → nat_eq n editor ≡ true
  is_own n e = ⊎_elim (λ h. h.0) (λ h. absurd (h.1 e)) (eqb_tells n editor)

  not_own : (n : ℕ) → ¬ (n ≡ editor) → nat_eq n editor ≡ false
  not_own n e = ⊎_elim (λ h. absurd (e h.1)) (λ h. h.0) (eqb_tells n editor)

  past_first : (h : Held) (helds : List Held) (place : ℕ) → NoneBefore editor (h ∷ helds) (suc place) → NoneBefore editor helds place
  past_first h helds place none = λ k o l e. none (suc k) o (omega (arith, l)) e

  -- the editor's transaction is the one at its place
  pub of_at : (helds : List Held) (place : ℕ) (t : Open) → slice_get helds place ≡ Some (held t) → NoneBefore editor helds place → of_editor editor (map begun_of helds) ≡ Some (begun_of (held t))
  of_at [] place t e none = absurd (let no : ⊥ = cc in no)
  of_at (h ∷ helds) zero t e none =
      let same = same_Some h (held t) e in
      ap (λ (b : Bool). cond b (Some (begun_of h)) (of_editor editor (map begun_of helds))) (is_own h.editor (ap (λ (o : Held). o.editor) same)) ∙ ap (λ (o : Held). Some (begun_of o)) same
  of_at (h ∷ helds) (suc place) t e none =
      ap (λ (b : Bool). cond b (Some (begun_of h)) (of_editor editor (map begun_of helds))) (not_own h.editor (none zero h (omega arith) refl))
      ∙ of_at helds place t e (past_first h helds place none)

  -- where none is the editor's, there is none
  pub none_at : (helds : List Held) → NoneBefore editor helds (length helds) → of_editor editor (map begun_of helds) ≡ None
  none_at [] none = refl
  none_at (h ∷ helds) none =
      ap (λ (b : Bool). cond b (Some (begun_of h)) (of_editor editor (map begun_of helds))) (not_own h.editor (none zero h (omega arith) refl))
      ∙ none_at helds (past_first h helds (length helds) none)

  -- one written at its place takes the place of the editor's
  pub with_at : (helds : List Held) (place : ℕ) (t new : Open) → slice_get helds place ≡ Some (held t) → NoneBefore editor helds place
      → map begun_of (slice_set helds place (held new)) ≡ with_one (begun_of (held new)) (map begun_of helds)
  with_at [] place t new e none = absurd (let no : ⊥ = cc in no)
  with_at (h ∷ helds) zero t new e none =
      let b = begun_of (held new) in
      sym (ap (λ (o : Bool). cond o (b ∷ map begun_of helds) (begun_of h ∷ with_one b (map begun_of helds))) (is_own h.editor (ap (λ (o : Held). o.editor) (same_Some h (held t) e))))
  with_at (h ∷ helds) (suc place) t new e none =
      let b = begun_of (held new) in
      ap (λ (bs : List Begun). begun_of h ∷ bs) (with_at helds place t new e (past_first h helds place none))
      ∙ sym (ap (λ (o : Bool). cond o (b ∷ map begun_of helds) (begun_of h ∷ with_one b (map begun_of helds))) (not_own h.editor (none zero h (omega arith) refl)))

  -- one taken out at its place is the editor's
  pub without_at : (helds : List Held) (place : ℕ) (t : Open) → slice_get helds place ≡ Some (held t) → NoneBefore editor helds place
      → map begun_of (remove helds place) ≡ without editor (map begun_of helds)
  without_at [] place t e none = absurd (let no : ⊥ = cc in no)
  without_at (h ∷ helds) zero t e none =
      sym (ap (λ (o : Bool). cond o (map begun_of helds) (begun_of h ∷ without editor (map begun_of helds))) (is_own h.editor (ap (λ (o : Held). o.editor) (same_Some h (held t) e))))
  without_at (h ∷ helds) (suc place) t e none =
      ap (λ (bs : List Begun). begun_of h ∷ bs) (without_at helds place t e (past_first h helds place none))
      ∙ sym (ap (λ (o : Bool). cond o (map begun_of helds) (begun_of h ∷ without editor (map begun_of helds))) (not_own h.editor (none zero h (omega arith) refl)))

  passed : (c : Begun) (rest : Option Begun) (is : Bool) → cond is (Some c) rest ≡ None → (is ≡ false) × (rest ≡ None)
  passed c rest true e = absurd (let no : ⊥ = cc in no)
  passed c rest false e = (refl, e)

  -- where the editor has none, one comes at the end
  with_none : (b : Begun) (begun : List Begun) → b.editor ≡ editor → of_editor editor begun ≡ None → with_one b begun ≡ begun ++ b ∷ []
  with_none b [] own none = refl
  with_none b (c ∷ begun) own none =
      let past = passed c (of_editor editor begun) (nat_eq c.editor editor) none in
      ap (λ (n : ℕ). cond (nat_eq c.editor n) (b ∷ begun) (c ∷ with_one b begun)) own
      ∙ ap (λ (is : Bool). cond is (b ∷ begun) (c ∷ with_one b begun)) past.0
      ∙ ap (λ (bs : List Begun). c ∷ bs) (with_none b begun own past.1)

  pub with_pushed : (helds : List Held) (new : Open) → of_editor editor (map begun_of helds) ≡ None → map begun_of (helds ++ held new ∷ []) ≡ with_one (begun_of (held new)) (map begun_of helds)
  with_pushed helds new none = map_push begun_of helds (held new) ∙ sym (with_none (begun_of (held new)) (map begun_of helds) refl none)

  -- the look-up goes past one that isn't the editor's
  pub next_none : (helds : List Held) (place : ℕ) (h : Held) → slice_get helds place ≡ Some h → ¬ (h.editor ≡ editor) → NoneBefore editor helds place → NoneBefore editor helds (place + 1)
  next_none helds place h e other none = λ k o l g. ⊎_elim
      (λ (q : k < place). none k o q g)
      (λ (q : k ≡ place). λ own. other (ap (λ (x : Held). x.editor) (same_Some h o (sym e ∙ ap (λ (n : ℕ). slice_get helds n) (sym q) ∙ g)) ∙ own))
      (before k place l)
    where
      before : (k place : ℕ) → k < place + 1 → (k < place) ⊎ (k ≡ place)
      before k place l = ⊎_elim (λ q. inl q) (λ q. inr (omega (arith, q, l))) (cases_lt k place)

  -- past the end there is none
  pub none_past : (helds : List Held) (place : ℕ) → length helds ≤ place → NoneBefore editor helds place → of_editor editor (map begun_of helds) ≡ None
  none_past helds place past none = none_at helds (λ k o l g. none k o (omega (arith, l, past)) g)
