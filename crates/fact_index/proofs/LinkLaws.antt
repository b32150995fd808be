-- The two orders of links stay in step.
use Rattle.std.proofs.lemmas.List.{take_more}
use Rattle.std.proofs.Common.{◌≡◌, ℕ, ◌<◌, ◌+◌, length, take, get_or, Bool, true, false, not, List, ◌++◌, ◌∷◌, [], refl, sym, ◌∙◌, ap, subst, arith, inl, inr, ◌⊎◌, ⊎_elim}
use Rattle.std.specs.Prelude.{Contains, ◌↔◌, Some, slice_get, nat_lt}
use Rattle.std.specs.List.Sorted.{IsStrictlySortedBy}
use Rattle.std.specs.Ordering.{is_eq}
use Rattle.std.specs.declared.cmp.Ordering.{Ordering}
use Rattle.std.specs.declared.cmp.Ordering.TheVariants.{Less, Equal, Greater}
use Rattle.std.proofs.lemmas.Cmp.{tied_itself, eq_by_cmp_equiv}
use Rattle.std.proofs.lemmas.Option.{slice_get_within, get_or_from_slice_get}
use Rattle.std.proofs.lemmas.Map.Keys.{Less-from_sorted}
use Rattle.std.specs.BTreeSet.{BTreeSet, contains, IsFromIterResult}
use Rattle.std.proofs.lemmas.Bool.{false≢true, ltb-true, ltb-false}
use Rattle.std.proofs.lemmas.List.Elements.{Contains-push, Contains-append_left, Contains-push_cases}
use Rattle.std.proofs.lemmas.Map.Views.{btree_set_contains_iff, Contains-from_any, list_any-from_Contains}
use Rattle.fact_index.specs.Links.{turned, AreBothWays}
use Rattle.fact_index.specs.Numbers.{AreOnce}
use Rattle.fact_index.specs.declared.places.Link.{Link}
use Rattle.fact_index.proofs.LinkOrder.{link_cmp, link_total, link_exact}

abbrev pub IsPut : Link → List Link → List Link → Type 0
IsPut k old new = (l : Link) → Contains new l ↔ ((l ≡ k) ⊎ Contains old l)

abbrev pub IsTaken : Link → List Link → List Link → Type 0
IsTaken k old new = (l : Link) → Contains new l ↔ (Contains old l × ¬ (l ≡ k))

-- the test of an ordered set, as membership
pub is_member : (s : BTreeSet Link) (k : Link) {b : Bool} → b ≡ contains link_cmp s k → (b ≡ true) ↔ Contains s.keys k
is_member s k e = let iff = btree_set_contains_iff link_total link_exact s k in ((λ h. iff.0 (sym e ∙ h)), λ m. e ∙ iff.1 m)

is_equal : (o : Ordering) → is_eq o ≡ true → o ≡ Equal
is_equal Less e = cc
is_equal Equal e = refl
is_equal Greater e = cc

-- an ordered set made of a list has its links
pub made_of : (links : List Link) (s : BTreeSet Link) → IsFromIterResult link_cmp links s → (l : Link) → Contains s.keys l ↔ Contains links l
made_of links s made l = (
  (λ m. Contains-from_any (λ x y e. link_exact x y (is_equal _ e)) l links (sym (made.0 l) ∙ (is_member s l refl).1 m)),
  λ m. (is_member s l refl).0 (made.0 l ∙ list_any-from_Contains (eq_by_cmp_equiv link_total) l links m),
)

not_was : (b c : Bool) → c ≡ not b → c ≡ false → b ≡ true
not_was true c e h = refl
not_was false c e h = absurd (false≢true (sym h ∙ e))

pub was_not : (b c : Bool) → c ≡ not b → c ≡ true → b ≡ false
was_not true c e h = absurd (false≢true (sym e ∙ h))
was_not false c e h = refl

pub was_member : (s : BTreeSet Link) (k : Link) {c : Bool} → c ≡ not (contains link_cmp s k) → c ≡ false → Contains s.keys k
was_member s k e h = (is_member s k refl).0 (not_was _ _ e h)

pub was_no_member : (s : BTreeSet Link) (k : Link) {c : Bool} → c ≡ not (contains link_cmp s k) → c ≡ true → ¬ Contains s.keys k
was_no_member s k e h m = false≢true (sym (was_not _ _ e h) ∙ (is_member s k refl).1 m)

turn_of : (l k : Link) → l ≡ turned k → turned l ≡ k
turn_of l k e = ap turned e

of_turn : (l k : Link) → turned l ≡ k → l ≡ turned k
of_turn l k e = ap turned e

module _ (k : Link) (forth back : List Link) (both : AreBothWays forth back) where
  pub put_both : (f b : List Link) → IsPut k forth f → IsPut (turned k) back b → AreBothWays f b
  put_both f b p q = record {
    each = λ l. (
      (λ m. (p (turned l)).1 (⊎_elim (λ e. inl (turn_of l k e)) (λ n. inr ((both.each l).0 n)) ((q l).0 m))),
      λ m. (q l).1 (⊎_elim (λ e. inl (of_turn l k e)) (λ n. inr ((both.each l).1 n)) ((p (turned l)).0 m)),
    );
  }

  pub put_undone : (b c : List Link) → IsPut (turned k) back b → (¬ Contains back (turned k)) → IsTaken (turned k) b c → AreBothWays forth c
  put_undone b c q n t = record {
    each = λ l. (
      (λ m. let r = (t l).0 m in ⊎_elim (λ e. absurd (r.1 e)) (λ h. (both.each l).0 h) ((q l).0 r.0)),
      λ m. let h = (both.each l).1 m in (t l).1 ((q l).1 (inr h), λ e. n (subst (Contains back) e h)),
    );
  }

  pub taken_both : (f b : List Link) → IsTaken k forth f → IsTaken (turned k) back b → AreBothWays f b
  taken_both f b p q = record {
    each = λ l. (
      (λ m. let r = (q l).0 m in (p (turned l)).1 ((both.each l).0 r.0, λ e. r.1 (of_turn l k e))),
      λ m. let r = (p (turned l)).0 m in (q l).1 ((both.each l).1 r.0, λ e. r.1 (turn_of l k e)),
    );
  }

  pub in_back : Contains back (turned k) ↔ Contains forth k
  in_back = both.each (turned k)

-- a link held already is put
pub held_is_put : (k : Link) (links : List Link) → Contains links k → IsPut k links links
held_is_put k links m l = (inr, λ h. ⊎_elim (λ e. subst (Contains links) (sym e) m) (λ n. n) h)

pub put_last : (k : Link) (links : List Link) → IsPut k links (links ++ k ∷ [])
put_last k links l = (
  (λ m. ⊎_elim inr (λ e. inl (sym e)) (Contains-push_cases links k l m)),
  λ h. ⊎_elim (λ e. subst (Contains (links ++ k ∷ [])) (sym e) (Contains-push links k)) (λ m. Contains-append_left links (k ∷ []) l m) h,
)

-- the links so far, turned round
abbrev pub AreTurned : List Link → List Link → Type 0
AreTurned links found = (l : Link) → Contains found l ↔ Contains links (turned l)

pub turned_more : (links found : List Link) (k : Link) → AreTurned links found → AreTurned (links ++ k ∷ []) (found ++ turned k ∷ [])
turned_more links found k h l = (
  (λ m. ⊎_elim (λ n. Contains-append_left links (k ∷ []) (turned l) ((h l).0 n)) (λ e. subst (Contains (links ++ k ∷ [])) (ap turned e) (Contains-push links k)) (Contains-push_cases found (turned k) l m)),
  λ m. ⊎_elim (λ n. Contains-append_left found (turned k ∷ []) l ((h l).1 n)) (λ e. subst (Contains (found ++ turned k ∷ [])) (ap turned e) (Contains-push found (turned k))) (Contains-push_cases links k (turned l) m),
)

-- what has the links, and what has them turned round
pub both_ways : (links turned_links forth back : List Link) → ((l : Link) → Contains forth l ↔ Contains links l) → ((l : Link) → Contains back l ↔ Contains turned_links l) → AreTurned links turned_links → AreBothWays forth back
both_ways links turned_links forth back f b t = record {
  each = λ l. ((λ m. (f (turned l)).1 ((t l).0 ((b l).0 m))), λ m. (b l).1 ((t l).1 ((f (turned l)).0 m)));
}

-- the links of a run of those turned round, turned back
pub found_back : (forth back turned_found found : List Link) (P : Link → Type 0) → AreBothWays forth back → ((l : Link) → Contains turned_found l ↔ (Contains back l × P l)) → AreTurned turned_found found
    → (l : Link) → Contains found l ↔ (Contains forth l × P (turned l))
found_back forth back turned_found found P both h t l = (
  (λ m. let r = (h (turned l)).0 ((t l).0 m) in ((both.each (turned l)).0 r.0, r.1)),
  λ (m, p). (t l).1 ((h (turned l)).1 ((both.each (turned l)).1 m, p)),
)

pub turned_at : (links found : List Link) (i : ℕ) (d : Link) → i < length links → AreTurned (take i links) found → AreTurned (take (i + 1) links) (found ++ turned (get_or links i d) ∷ [])
turned_at links found i d within h = subst (λ (us : List Link). AreTurned us (found ++ turned (get_or links i d) ∷ [])) (sym (take_more links i d within)) (turned_more (take i links) found (get_or links i d) h)

-- links in order stand at one place each
module _ (xs : List Link) (s : IsStrictlySortedBy link_cmp xs) where
  not_before : (i j : ℕ) (x : Link) → slice_get xs i ≡ Some x → slice_get xs j ≡ Some x → i < j → ⊥
  not_before i j x e f l =
      let within = slice_get_within xs j x f in
      let less : link_cmp (get_or xs i x) (get_or xs j x) ≡ Less = Less-from_sorted link_cmp xs i j x s l within in
      let a = get_or_from_slice_get xs i x x e in
      let b = get_or_from_slice_get xs j x x f in
      let same : link_cmp x x ≡ Equal = tied_itself link_total x in
      let no : link_cmp x x ≡ Less = ap (link_cmp x) (sym b) ∙ ap (λ (y : Link). link_cmp y (get_or xs j x)) (sym a) ∙ less in
      cc

  pub ordered_once : AreOnce xs
  ordered_once i j x e f = by (nat_lt i j) (nat_lt j i) refl refl
    where
      by : (b c : Bool) → nat_lt i j ≡ b → nat_lt j i ≡ c → i ≡ j
      by true c l m = absurd (not_before i j x e f (ltb-true i j l))
      by false true l m = absurd (not_before j i x f e (ltb-true j i m))
      by false false l m = let p = ltb-false i j l in let q = ltb-false j i m in omega (arith, p, q)
