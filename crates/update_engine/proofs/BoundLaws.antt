-- How many steps a request takes.
use Rattle.std.proofs.Common.{◌≡◌, ℕ, ◌≤◌, ◌+◌, ◌*◌, List, [], ◌∷◌, ◌++◌, length, ⊎_elim, arith}
use Rattle.std.specs.Prelude.{◌↔◌, Contains}
use Rattle.std.proofs.Math.Nat.{mul-add, mul-suc, mul-le-mul_left}
use Rattle.std.proofs.lemmas.List.{length-append}
use Rattle.std.proofs.lemmas.List.Elements.{Contains-append_left, Contains-append_right}
use Rattle.dl_base.specs.declared.statements.Fact.{Fact}
use Rattle.dl_base.specs.FactOrder.{AreSorted}
use Rattle.dl_base.specs.Picks.{Picks}
use Rattle.dl_base.specs.Updates.{Lists}
use Rattle.dl_base.proofs.PicksLaws.{from_picks}
use Rattle.guard_eval.specs.Finding.{total}
use Rattle.guard_eval.proofs.TotalLaws.{bounded, times_sorted}
use Rattle.update_engine.specs.Counting.{most_to_find, most_steps}
use Rattle.update_engine.proofs.StepLaws.{Joins}

total_of_ones : (facts : List Fact) → total (λ f. 1) facts ≡ length facts
total_of_ones [] = omega arith
total_of_ones (f ∷ facts) = let rest = total_of_ones facts in omega (arith, rest)

-- sorted facts are no more than those among which they are
pub no_longer : (xs ys : List Fact) → AreSorted xs → ((f : Fact) → Contains xs f → Contains ys f) → length xs ≤ length ys
no_longer xs ys sorted within =
    let most = bounded (λ f. 1) xs ys within (λ f. times_sorted f xs sorted) in
    let ones = total_of_ones ys in
    omega (arith, most, ones)

-- facts of which the same holds are as many
pub no_more : (P : Fact → Type 0) (xs ys : List Fact) → Lists P xs → Lists P ys → length xs ≤ length ys
no_more P xs ys h k = no_longer xs ys h.sorted (λ f m. (k.each f).1 ((h.each f).0 m))

-- what is put are insertions and facts that the removed ones entail
pub put_few : (Q : Fact → Type 0) (inserts raw entailed kept joined put : List Fact) → ((f : Fact) → Contains entailed f ↔ Contains raw f) → Picks Q entailed kept → Joins kept inserts joined
    → AreSorted put → ((f : Fact) → Contains put f ↔ Contains joined f) → length put ≤ length inserts + length raw
put_few Q inserts raw entailed kept joined put same picks joins sorted copies =
    let most = no_longer put (inserts ++ raw) sorted (λ f m. ⊎_elim
    (λ k. Contains-append_right inserts raw f ((same f).0 (from_picks Q entailed kept f picks k).0))
    (λ k. Contains-append_left inserts raw f k)
    ((joins f).0 ((copies f).0 m))) in
    let long = length-append inserts raw in
    omega (arith, most, long)

-- so many facts are entailed by one more
pub follow_few : (terms i : ℕ) (xs ys : List Fact) → length xs ≤ 2 * terms * i → length ys ≤ 2 * terms → length (xs ++ ys) ≤ 2 * terms * (i + 1)
follow_few terms i xs ys h k =
    let e = mul-add (2 * terms) i 1 in
    let long = length-append xs ys in
    omega (arith, h, k, e, long)

-- the look-ups, and one step for each fact that is put: so many are inserted, and so many of the facts that meet are removed
all_within : (n r inserted removed m put old mid new : ℕ) → inserted ≤ r → removed ≤ m → mid ≤ old + most_to_find n r m → put ≤ inserted + 2 * n * removed → new ≤ mid + put → new ≤ old + most_steps n r m
all_within n r inserted removed m put old mid new a b c d e =
    let s = mul-add (8 * n) r m in
    let w = mul-le-mul_left (2 * n) b in
    let x : 8 * n * m ≡ 4 * (2 * n * m) = omega arith in
    omega (arith, a, c, d, e, s, w, x)

module _ (P : Fact → Type 0) (n r old mid : ℕ) (finds : (met : List Fact) → Lists P met → mid ≤ old + most_to_find n r (length met)) where
  -- the look-ups alone are within the bound
  pub found_within : (met : List Fact) → Lists P met → mid ≤ old + most_steps n r (length met)
  found_within met lists =
      let e = mul-add (8 * n) r (length met) in
      let h = finds met lists in
      omega (arith, e, h)

  -- and with one step for each fact that is put, these being insertions and what the removed facts entail
  pub step_within : (Q : Fact → Type 0) (inserts gone raw entailed kept joined put : List Fact) (new : ℕ) → length inserts ≤ r → Lists P gone → length raw ≤ 2 * n * length gone
      → ((f : Fact) → Contains entailed f ↔ Contains raw f) → Picks Q entailed kept → Joins kept inserts joined → AreSorted put → ((f : Fact) → Contains put f ↔ Contains joined f)
      → new ≤ mid + length put → (met : List Fact) → Lists P met → new ≤ old + most_steps n r (length met)
  step_within Q inserts gone raw entailed kept joined put new some removes few same picks joins sorted copies last met lists =
      let size = put_few Q inserts raw entailed kept joined put same picks joins sorted copies in
      all_within n r (length inserts) (length gone) (length met) (length put) old mid new some (no_more P gone met removes lists) (finds met lists) (omega (arith, size, few)) last
