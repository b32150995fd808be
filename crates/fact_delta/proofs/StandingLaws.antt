-- Which facts stand, that they are in order, and how many they are.
use Rattle.std.proofs.Common.{◌≡◌, ◌+◌, ◌≤◌, List, [], ◌∷◌, length, sym, subst, arith, inl, inr, ◌⊎◌, ⊎_elim}
use Rattle.std.specs.Prelude.{◌↔◌, Contains}
use Rattle.std.specs.List.Sorted.{IsStrictlySortedBy}
use Rattle.dl_base.specs.declared.statements.Fact.{Fact}
use Rattle.dl_base.specs.FactOrder.{AreSorted, fact_cmp}
use Rattle.dl_base.proofs.Members.{here, there, nowhere, cons_cases}
use Rattle.dl_base.proofs.OrderLaws.{fact_total, exact_facts}
use Rattle.fact_delta.specs.Deltas.{Over, IsOver, without, with_all, standing}
use Rattle.fact_delta.proofs.OrderedLaws.{from_insert, into_insert, sorted_insert, length_insert, from_removed, into_removed, sorted_removed, length_removed, not_later}

sorted_rest : (f : Fact) (facts : List Fact) → AreSorted (f ∷ facts) → AreSorted facts
unfolding IsStrictlySortedBy
sorted_rest f facts s = s.1

sorted_without : (went facts : List Fact) → AreSorted facts → AreSorted (without went facts)
sorted_without [] facts s = s
sorted_without (g ∷ went) facts s = sorted_removed fact_cmp fact_total exact_facts (without went facts) g (sorted_without went facts s)

from_without : (went facts : List Fact) (f : Fact) → AreSorted facts → Contains (without went facts) f → Contains facts f × ¬ Contains went f
from_without [] facts f s m = (m, nowhere f)
from_without (g ∷ went) facts f s m =
    let cut = from_removed fact_cmp fact_total exact_facts (without went facts) g f (sorted_without went facts s) m in
    let rest = from_without went facts f s cut.0 in
    (rest.0, λ n. ⊎_elim cut.1 rest.1 (cons_cases g went f n))

into_without : (went facts : List Fact) (f : Fact) → Contains facts f → ¬ Contains went f → Contains (without went facts) f
into_without [] facts f m n = m
into_without (g ∷ went) facts f m n =
    into_removed fact_cmp fact_total exact_facts (without went facts) g f (into_without went facts f m (λ k. n (there g went f k))) (λ e. n (subst (Contains (g ∷ went)) e (here g went)))

length_without : (went facts : List Fact) → AreSorted went → ((f : Fact) → Contains went f → Contains facts f) → length went + length (without went facts) ≡ length facts
length_without [] facts s h = omega arith
length_without (g ∷ went) facts s h =
    let rest = length_without went facts (sorted_rest g went s) (λ f m. h f (there g went f m)) in
    let cut = length_removed fact_cmp fact_total exact_facts (without went facts) g (into_without went facts g (h g (here g went)) (not_later fact_cmp fact_total exact_facts g went s)) in
    omega (arith, rest, cut)

sorted_with : (came facts : List Fact) → AreSorted facts → AreSorted (with_all came facts)
sorted_with [] facts s = s
sorted_with (g ∷ came) facts s = sorted_insert fact_cmp fact_total exact_facts (with_all came facts) g (sorted_with came facts s)

from_with : (came facts : List Fact) (f : Fact) → Contains (with_all came facts) f → Contains facts f ⊎ Contains came f
from_with [] facts f m = inl m
from_with (g ∷ came) facts f m = ⊎_elim
    (λ e. inr (subst (Contains (g ∷ came)) e (here g came)))
    (λ k. ⊎_elim inl (λ n. inr (there g came f n)) (from_with came facts f k))
    (from_insert fact_cmp fact_total exact_facts (with_all came facts) g f m)

into_with : (came facts : List Fact) (f : Fact) → Contains facts f ⊎ Contains came f → Contains (with_all came facts) f
into_with [] facts f h = ⊎_elim (λ m. m) (λ m. absurd (nowhere f m)) h
into_with (g ∷ came) facts f h = into_insert fact_cmp fact_total exact_facts (with_all came facts) g f
    (⊎_elim (λ m. inr (into_with came facts f (inl m))) (λ m. ⊎_elim inl (λ k. inr (into_with came facts f (inr k))) (cons_cases g came f m)) h)

length_with : (came facts : List Fact) → AreSorted came → ((f : Fact) → Contains came f → ¬ Contains facts f) → length (with_all came facts) ≡ length came + length facts
length_with [] facts s h = omega arith
length_with (g ∷ came) facts s h =
    let rest = length_with came facts (sorted_rest g came s) (λ f m. h f (there g came f m)) in
    let new : ¬ Contains (with_all came facts) g = λ m. ⊎_elim (h g (here g came)) (not_later fact_cmp fact_total exact_facts g came s) (from_with came facts g m) in
    let one = length_insert fact_cmp fact_total exact_facts (with_all came facts) g new in
    omega (arith, rest, one)

module _ (d : Over) (is : IsOver d) where
  pub standing_sorted : AreSorted (standing d)
  standing_sorted = sorted_with d.came (without d.went d.base) (sorted_without d.went d.base is.base_sorted)

  -- what stands is what came, and the base but for what went
  pub stands : (f : Fact) → Contains (standing d) f ↔ ((Contains d.base f × ¬ Contains d.went f) ⊎ Contains d.came f)
  stands f = (
    (λ m. ⊎_elim (λ k. inl (from_without d.went d.base f is.base_sorted k)) inr (from_with d.came (without d.went d.base) f m)),
    λ h. into_with d.came (without d.went d.base) f (⊎_elim (λ k. inl (into_without d.went d.base f k.0 k.1)) inr h),
  )

  pub standing_length : length d.went + length (standing d) ≡ length d.base + length d.came
  standing_length =
      let cut = length_without d.went d.base is.went_sorted is.old in
      let more = length_with d.came (without d.went d.base) is.came_sorted (λ f m n. is.new f m (from_without d.went d.base f is.base_sorted n).0) in
      omega (arith, cut, more)

  pub went_few : length d.went ≤ length d.base
  went_few = let cut = length_without d.went d.base is.went_sorted is.old in omega (arith, cut)

none_sorted : AreSorted []
unfolding IsStrictlySortedBy
none_sorted = tt

-- a base in order with nothing that came or went
pub nothing_yet : (base came went : List Fact) → AreSorted base → came ≡ [] → went ≡ [] → IsOver (record { base = base; came = came; went = went })
nothing_yet base came went s c w = record {
  base_sorted = s;
  came_sorted = subst AreSorted (sym c) none_sorted;
  went_sorted = subst AreSorted (sym w) none_sorted;
  new = λ f m. absurd (nowhere f (subst (λ (fs : List Fact). Contains fs f) c m));
  old = λ f m. absurd (nowhere f (subst (λ (fs : List Fact). Contains fs f) w m));
}
