-- How often facts stand in a list, and how many that makes together.
use Rattle.std.proofs.Common.{◌≡◌, ℕ, ◌≤◌, ◌+◌, Bool, true, false, cond, List, [], ◌∷◌, ◌++◌, length, refl, sym, ◌∙◌, ap, subst, arith, inl, inr, ◌⊎◌, ⊎_elim}
use Rattle.std.specs.Prelude.{Contains}
use Rattle.std.specs.List.{AllByRecursion}
use Rattle.std.specs.List.Sorted.{IsStrictlySortedBy}
use Rattle.std.specs.declared.cmp.Ordering.TheVariants.{Less, Equal}
use Rattle.std.proofs.lemmas.Cmp.{tied_itself}
use Rattle.std.proofs.lemmas.Bool.{false≢true}
use Rattle.dl_base.specs.FactOrder.{fact_cmp, AreSorted}
use Rattle.dl_base.specs.declared.statements.Fact.{Fact}
use Rattle.dl_base.specs.contracts.statements.FactEq.TheImpl.Laws as eq_law
use Rattle.dl_base.proofs.Members.{here, there, nowhere, cons_cases}
use Rattle.dl_base.proofs.OrderLaws.{derived_eq, derived_exact, fact_total}
use Rattle.dl_base.proofs.SortedLaws.{all_at}
use Rattle.guard_eval.specs.Finding.{total}

-- how often f stands in the list
abbrev pub times : Fact → List Fact → ℕ
times f [] = 0
times f (g ∷ gs) = cond (derived_eq f g) 1 0 + times f gs

pub times_append : (f : Fact) (xs ys : List Fact) → times f (xs ++ ys) ≡ times f xs + times f ys
times_append f [] ys = omega arith
times_append f (x ∷ xs) ys = let rest = times_append f xs ys in omega (arith, rest)

apart : (b : Bool) → (b ≡ true → ⊥) → ◌≡◌ {A = ℕ} (cond b 1 0) 0
apart true n = absurd (n refl)
apart false n = refl

at_most_one : (b : Bool) → cond b 1 0 ≤ 1
at_most_one true = omega arith
at_most_one false = omega arith

pub times_none : (f : Fact) (xs : List Fact) → (¬ Contains xs f) → times f xs ≡ 0
times_none f [] n = refl
times_none f (x ∷ xs) n =
    let head = apart (derived_eq f x) (λ e. n (subst (Contains (x ∷ xs)) (sym (derived_exact f x e)) (here x xs))) in
    let rest = times_none f xs (λ m. n (there x xs f m)) in
    omega (arith, head, rest)

before_itself : (f x : Fact) → f ≡ x → fact_cmp x f ≡ Less → ⊥
before_itself f x e l = let same : fact_cmp x x ≡ Equal = tied_itself fact_total x in let less : fact_cmp x x ≡ Less = subst (λ (z : Fact). fact_cmp x z ≡ Less) e l in cc

-- in order it stands once
pub times_sorted : (f : Fact) (xs : List Fact) → AreSorted xs → times f xs ≤ 1
unfolding IsStrictlySortedBy
times_sorted f [] s = omega arith
times_sorted f (x ∷ xs) s = by (derived_eq f x) refl (times_sorted f xs s.1) (λ e. times_none f xs (λ m. before_itself f x e (all_at (λ (z : Fact). fact_cmp x z ≡ Less) xs f s.0 m)))
  where
    by : (b : Bool) → derived_eq f x ≡ b → times f xs ≤ 1 → (f ≡ x → times f xs ≡ 0) → cond b 1 0 + times f xs ≤ 1
    by true h r z = let none = z (derived_exact f x h) in omega (arith, none)
    by false h r z = omega (arith, r)

pub total_le : (u w : Fact → ℕ) → ((f : Fact) → u f ≤ w f) → (facts : List Fact) → total u facts ≤ total w facts
total_le u w h [] = omega arith
total_le u w h (f ∷ facts) = let a = h f in let b = total_le u w h facts in omega (arith, a, b)

total_add : (u w : Fact → ℕ) (facts : List Fact) → total (λ f. u f + w f) facts ≡ total u facts + total w facts
total_add u w [] = refl
total_add u w (f ∷ facts) = let rest = total_add u w facts in omega (arith, rest)

is_itself : (f : Fact) → derived_eq f f ≡ true
is_itself = eq_law.laws-law.refl

hit : (b : Bool) → b ≡ true → 1 ≤ cond b 1 0
hit true e = omega arith
hit false e = absurd (false≢true e)

total_hit : (g : Fact) (facts : List Fact) → Contains facts g → 1 ≤ total (λ f. cond (derived_eq f g) 1 0) facts
total_hit g [] m = absurd (nowhere g m)
total_hit g (f ∷ facts) m = ⊎_elim
    (λ e. let one = hit (derived_eq f g) (subst (λ (z : Fact). derived_eq z g ≡ true) (sym e) (is_itself g)) in omega (arith, one))
    (λ k. let rest = total_hit g facts k in omega (arith, rest))
    (cons_cases f facts g m)

-- a list is no longer than its facts stand in it together
pub as_often : (xs facts : List Fact) → ((g : Fact) → Contains xs g → Contains facts g) → length xs ≤ total (λ f. times f xs) facts
as_often [] facts h = omega arith
as_often (x ∷ xs) facts h =
    let rest = as_often xs facts (λ g m. h g (there x xs g m)) in
    let one = total_hit x facts (h x (here x xs)) in
    let both : total (λ f. times f (x ∷ xs)) facts ≡ total (λ f. cond (derived_eq f x) 1 0) facts + total (λ f. times f xs) facts = total_add (λ f. cond (derived_eq f x) 1 0) (λ f. times f xs) facts in
    omega (arith, rest, one, both)

pub bounded : (w : Fact → ℕ) (xs facts : List Fact) → ((g : Fact) → Contains xs g → Contains facts g) → ((f : Fact) → times f xs ≤ w f) → length xs ≤ total w facts
bounded w xs facts h few = let a = as_often xs facts h in let b = total_le (λ f. times f xs) w few facts in omega (arith, a, b)
