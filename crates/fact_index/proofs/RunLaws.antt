-- A run is a range of the ordered links, from its least link up to the first that isn't in it.
use Rattle.std.proofs.Common.{◌≡◌, Bool, true, false, not, ◌&&◌, cond, List, [], ◌∷◌, ◌++◌, refl, sym, ◌∙◌, ap, subst, inl, inr, ◌⊎◌, ⊎_elim}
use Rattle.std.specs.Prelude.{Contains, ◌↔◌}
use Rattle.std.specs.List.{filter}
use Rattle.std.specs.List.Sorted.{IsStrictlySortedBy}
use Rattle.std.specs.Ordering.{is_le}
use Rattle.std.specs.declared.cmp.Ordering.TheVariants.{Less}
use Rattle.std.proofs.lemmas.Bool.{false≢true}
use Rattle.std.proofs.lemmas.List.Elements.{Contains-append_left, Contains-append_right, Contains-append_cases, Contains-push_cases}
use Rattle.std.proofs.lemmas.List.Kept.{IsStrictlySortedBy-filter}
use Rattle.dl_base.proofs.Members.{here, there, nowhere, cons_cases}
use Rattle.dl_base.proofs.SortedLaws.{all_at}
use Rattle.fact_index.specs.Links.{IsIn, least_of}
use Rattle.fact_index.specs.declared.places.Link.{Link}
use Rattle.fact_index.specs.declared.places.Run.{Run}
use Rattle.fact_index.proofs.LinkOrder.{link_cmp, not_before, between}

filter_cases : {X : Type 0} (b : Bool) (x : X) (ys : List X) (y : X) → Contains (cond b (x ∷ ys) ys) y → ((b ≡ true) × (x ≡ y)) ⊎ Contains ys y
filter_cases true x ys y h = ⊎_elim (λ e. inl (refl, e)) inr (cons_cases x ys y h)
filter_cases false x ys y h = inr h

filter_into : {X : Type 0} (b : Bool) (x : X) (ys : List X) (y : X) → ((b ≡ true) × (x ≡ y)) ⊎ Contains ys y → Contains (cond b (x ∷ ys) ys) y
filter_into true x ys y (inl (t, e)) = subst (Contains (x ∷ ys)) e (here x ys)
filter_into true x ys y (inr m) = there x ys y m
filter_into false x ys y (inl (t, e)) = absurd (false≢true t)
filter_into false x ys y (inr m) = m

module _ {X : Type 0} (p : X → Bool) where
  from_filter : (xs : List X) (y : X) → Contains (filter p xs) y → Contains xs y × (p y ≡ true)
  from_filter [] y h = absurd (nowhere y h)
  from_filter (x ∷ xs) y h = ⊎_elim
      (λ k. (subst (Contains (x ∷ xs)) k.1 (here x xs), subst (λ (z : X). p z ≡ true) k.1 k.0))
      (λ m. let r = from_filter xs y m in (there x xs y r.0, r.1))
      (filter_cases (p x) x (filter p xs) y h)

  into_filter : (xs : List X) (y : X) → Contains xs y → p y ≡ true → Contains (filter p xs) y
  into_filter [] y h k = absurd (nowhere y h)
  into_filter (x ∷ xs) y h k = filter_into (p x) x (filter p xs) y (⊎_elim
      (λ e. inl (subst (λ (z : X). p z ≡ true) (sym e) k, e))
      (λ m. inr (into_filter xs y m k))
      (cons_cases x xs y h))

-- what stands after x in order comes after it
after : (ys zs : List Link) (x y : Link) → IsStrictlySortedBy link_cmp (ys ++ x ∷ zs) → Contains zs y → link_cmp x y ≡ Less
unfolding IsStrictlySortedBy
after [] zs x y s m = all_at (λ (z : Link). link_cmp x z ≡ Less) zs y s.0 m
after (z ∷ ys) zs x y s m = after ys zs x y s.1 m

and_true : (b : Bool) → b ≡ true → (b && not false) ≡ true
and_true b h = ap (λ c. c && not false) h

from_and : (b : Bool) → (b && not false) ≡ true → b ≡ true
from_and true h = refl
from_and false h = h

module _ (r : Run) where
  -- the range from the least link of the run on
  abbrev pub from_least : List Link → List Link
  from_least keys = filter (λ q. is_le (link_cmp (least_of r) q) && not false) keys

  -- the links found so far are those that the range has yielded, and in the run
  pub record AreFound (yielded found : List Link) : Type 0 where
    pub same : found ≡ yielded
    pub each : (l : Link) → Contains found l → IsIn r l

  pub found_none : AreFound [] []
  found_none = record { same = refl; each = λ l m. absurd (nowhere l m) }

  pub found_more : (ys fs : List Link) (x : Link) → AreFound ys fs → IsIn r x → AreFound (ys ++ x ∷ []) (fs ++ x ∷ [])
  found_more ys fs x h i = record {
    same = ap (λ us. us ++ x ∷ []) h.same;
    each = λ l m. ⊎_elim (h.each l) (λ e. subst (IsIn r) e i) (Contains-push_cases fs x l m);
  }

  in_range : (keys : List Link) (l : Link) → Contains keys l → IsIn r l → Contains (from_least keys) l
  in_range keys l m i = into_filter _ keys l m (and_true _ (not_before r l i))

  -- the whole range is in the run
  pub found_all : (keys found ys : List Link) → ys ≡ from_least keys → AreFound ys found → (l : Link) → Contains found l ↔ (Contains keys l × IsIn r l)
  found_all keys found ys e h l = (
    (λ m. ((from_filter _ keys l (subst (λ (us : List Link). Contains us l) (h.same ∙ e) m)).0, h.each l m)),
    λ (m, i). subst (λ (us : List Link). Contains us l) (sym (h.same ∙ e)) (in_range keys l m i),
  )

  -- the range goes on behind a link that isn't in the run
  pub found_until : (keys found ys zs : List Link) (x : Link) → IsStrictlySortedBy link_cmp keys → from_least keys ≡ ys ++ x ∷ zs → (¬ IsIn r x) → AreFound ys found → (l : Link) → Contains found l ↔ (Contains keys l × IsIn r l)
  found_until keys found ys zs x s e n h l =
      let sorted = subst (IsStrictlySortedBy link_cmp) e (IsStrictlySortedBy-filter link_cmp _ keys s) in
      let least = from_and _ (from_filter _ keys x (subst (λ (us : List Link). Contains us x) (sym e) (Contains-append_right ys (x ∷ zs) x (here x zs)))).1 in
      let before = λ (m : Contains keys l) (i : IsIn r l). ⊎_elim
      (λ (k : Contains ys l). k)
      (λ (k : Contains (x ∷ zs) l). absurd (n (⊎_elim
      (λ (q : x ≡ l). subst (IsIn r) (sym q) i)
      (λ (q : Contains zs l). between r x l least (after ys zs x l sorted q) i)
      (cons_cases x zs l k))))
      (Contains-append_cases ys (x ∷ zs) l (subst (λ (us : List Link). Contains us l) e (in_range keys l m i))) in (
        (λ m. ((from_filter _ keys l (subst (λ (us : List Link). Contains us l) (sym e) (Contains-append_left ys (x ∷ zs) l (subst (λ (us : List Link). Contains us l) h.same m)))).0, h.each l m)),
        λ (m, i). subst (λ (us : List Link). Contains us l) (sym h.same) (before m i),
      )
