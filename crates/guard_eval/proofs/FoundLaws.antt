-- The steps of the loop over the patterns.
use Rattle.std.proofs.Common.{◌≡◌, ℕ, ◌<◌, ◌≤◌, ◌+◌, Bool, true, false, cond, List, [], ◌∷◌, ◌++◌, length, take, drop, get_or, refl, sym, ◌∙◌, ap, subst, arith, inl, inr, ◌⊎◌, ⊎_elim}
use Rattle.std.specs.Prelude.{Contains, ◌↔◌, count_by}
use Rattle.std.proofs.lemmas.List.{take_all, take-append-drop}
use Rattle.std.proofs.lemmas.List.Sums.{sum_by-append, sum_by-cons, sum_by-take-le}
use Rattle.std.proofs.lemmas.List.Elements.{Contains-append_left, Contains-append_right, Contains-append_cases, Contains-push, Contains-push_cases}
use Rattle.dl_base.specs.FactOrder.{fact_cmp, AreSorted}
use Rattle.dl_base.specs.Patterns.{Matches}
use Rattle.dl_base.specs.Updates.{Lists}
use Rattle.dl_base.specs.declared.patterns.Pattern.{Pattern}
use Rattle.dl_base.specs.declared.statements.Fact.{Fact}
use Rattle.dl_base.proofs.Members.{nowhere}
use Rattle.dl_base.proofs.OrderLaws.{fact_total, exact_facts}
use Rattle.dl_base.proofs.SortedLaws.{member_or_not}
use Rattle.dl_base.proofs.VocabularyLaws.{take_on}
use Rattle.guard_eval.specs.Finding.{IsFound, AreFound, TellsMatches, CountsFinds, total}
use Rattle.guard_eval.proofs.TotalLaws.{times, times_append, times_none, times_sorted, bounded}

-- no fact stands oftener than the patterns that it can match
abbrev pub AreFew : List Pattern → List Fact → Type 0
AreFew patterns xs = (test : Fact → Pattern → Bool) → TellsMatches test → (f : Fact) → times f xs ≤ count_by (test f) patterns

module _ (held : List Fact) where
  pub found_none : AreFound [] held []
  found_none f = ((λ m. absurd (nowhere f m)), λ (m, (p, c, q)). absurd (nowhere p c))

  found_more : (patterns : List Pattern) (p : Pattern) (xs ys : List Fact) → Lists (λ f. Contains held f × Matches p f) ys → AreFound patterns held xs → AreFound (patterns ++ p ∷ []) held (xs ++ ys)
  found_more patterns p xs ys k h f = (
    (λ m. ⊎_elim
        (λ n. let (c, (q, d, e)) = (h f).0 n in (c, (q, Contains-append_left patterns (p ∷ []) q d, e)))
        (λ n. let (c, e) = (k.each f).0 n in (c, (p, Contains-push patterns p, e)))
        (Contains-append_cases xs ys f m)),
    λ (c, (q, d, e)). ⊎_elim
        (λ n. Contains-append_left xs ys f ((h f).1 (c, (q, n, e))))
        (λ n. Contains-append_right xs ys f ((k.each f).1 (c, subst (λ (z : Pattern). Matches z f) (sym n) e)))
        (Contains-push_cases patterns p q d),
  )

  hit : (b : Bool) → b ≡ true → (n : ℕ) → n ≤ 1 → n ≤ cond b 1 0
  hit true e n l = l
  hit false e n l = cc

  pub few_none : AreFew [] []
  few_none test tells f = omega arith

  few_here : (p : Pattern) (ys : List Fact) → Lists (λ f. Contains held f × Matches p f) ys → (test : Fact → Pattern → Bool) → TellsMatches test → (f : Fact) → times f ys ≤ cond (test f p) 1 0
  few_here p ys k test tells f = ⊎_elim
      (λ m. hit (test f p) (tells f p ((k.each f).0 m).1) (times f ys) (times_sorted f ys k.sorted))
      (λ n. let none = times_none f ys n in omega (arith, none))
      (member_or_not fact_cmp fact_total exact_facts ys f)

  few_more : (patterns : List Pattern) (p : Pattern) (xs ys : List Fact) → Lists (λ f. Contains held f × Matches p f) ys → AreFew patterns xs → AreFew (patterns ++ p ∷ []) (xs ++ ys)
  few_more patterns p xs ys k h test tells f =
      let so_far = h test tells f in
      let one = few_here p ys k test tells f in
      let both = times_append f xs ys in
      let sum = sum_by-append (λ (q : Pattern). cond (test f q) 1 0) patterns (p ∷ []) in
      omega (arith, so_far, one, both, sum)

  module _ (patterns : List Pattern) (i : ℕ) (p : Pattern) (within : i < length patterns) (at : p ≡ get_or patterns i p) (xs ys : List Fact) (k : Lists (λ f. Contains held f × Matches p f) ys) where
    pub found_next : AreFound (take i patterns) held xs → AreFound (take (i + 1) patterns) held (xs ++ ys)
    found_next h = subst (λ (us : List Pattern). AreFound us held (xs ++ ys)) (sym (take_on patterns i p within at)) (found_more (take i patterns) p xs ys k h)

    pub few_next : AreFew (take i patterns) xs → AreFew (take (i + 1) patterns) (xs ++ ys)
    few_next h = subst (λ (us : List Pattern). AreFew us (xs ++ ys)) (sym (take_on patterns i p within at)) (few_more (take i patterns) p xs ys k h)

  from_take : (patterns : List Pattern) (i : ℕ) (xs facts : List Fact) → AreFound (take i patterns) held xs → Lists (IsFound patterns held) facts → (g : Fact) → Contains xs g → Contains facts g
  from_take patterns i xs facts h k g m = let (c, (p, d, e)) = (h g).0 m in (k.each g).1 (c, (p, in_take i patterns p d, e))
    where
      in_take : (n : ℕ) (ps : List Pattern) (q : Pattern) → Contains (take n ps) q → Contains ps q
      in_take n ps q d = subst (λ (zs : List Pattern). Contains zs q) (take-append-drop n ps) (Contains-append_left (take n ps) (drop n ps) q d)

  pub found_end : (patterns : List Pattern) (i : ℕ) (xs : List Fact) → length patterns ≤ i → AreFound (take i patterns) held xs → AreFound patterns held xs
  found_end patterns i xs past h = subst (λ (us : List Pattern). AreFound us held xs) (take_all i patterns past) h

  -- what was found so far took no more than is counted for the patterns so far, and one look-up more may be under way
  pub counts_by : (patterns : List Pattern) (i : ℕ) (xs : List Fact) (old new : ℕ) → new ≤ old + length patterns + length xs → AreFound (take i patterns) held xs → AreFew (take i patterns) xs
      → (facts : List Fact) → Lists (IsFound patterns held) facts → CountsFinds patterns facts old new
  counts_by patterns i xs old new l h few facts k test tells =
      let most = bounded (λ f. count_by (test f) patterns) xs facts (from_take patterns i xs facts h k) (λ f. let a = few test tells f in let b = sum_by-take-le (λ (q : Pattern). cond (test f q) 1 0) patterns i in omega (arith, a, b)) in
      omega (arith, most, l)
