-- A list without repeats is no longer than one that holds all of it.
use Rattle.std.proofs.Common.{◌≡◌, ◌≤◌, ◌+◌, ◌++◌, List, [], ◌∷◌, length, refl, sym, ◌∙◌, ap, subst, inl, inr, ◌⊎◌, ⊎_elim, arith}
use Rattle.std.specs.Prelude.{Contains}
use Rattle.std.specs.List.Sorted.{IsStrictlySortedBy}
use Rattle.std.specs.declared.cmp.Ordering.TheVariants.{Less, Equal}
use Rattle.std.proofs.lemmas.Cmp.{tied_itself}
use Rattle.std.proofs.lemmas.List.Elements.{Contains-append_left, Contains-append_right, Contains-append_cases}
use Rattle.dl_base.specs.declared.statements.Fact.{Fact}
use Rattle.dl_base.specs.FactOrder.{fact_cmp, AreSorted}
use Rattle.dl_base.proofs.Members.{here, there, nowhere, cons_cases}
use Rattle.dl_base.proofs.OrderLaws.{fact_total}
use Rattle.dl_base.proofs.SortedLaws.{all_at}

-- where the fact stands in the list
split_at : (f : Fact) (xs : List Fact) → Contains xs f → (before after : List Fact) × (xs ≡ before ++ f ∷ after)
split_at f [] m = absurd (nowhere f m)
split_at f (x ∷ xs) m = ⊎_elim
    (λ (e : x ≡ f). ([], xs, ap (λ (z : Fact). z ∷ xs) e))
    (λ k. let (before, after, e) = split_at f xs k in (x ∷ before, after, ap (λ (zs : List Fact). x ∷ zs) e))
    (cons_cases x xs f m)

-- another fact stands beside it
beside_it : (f g : Fact) (before after : List Fact) → ¬ (f ≡ g) → Contains (before ++ f ∷ after) g → Contains (before ++ after) g
beside_it f g before after n m = ⊎_elim
    (λ k. Contains-append_left before after g k)
    (λ k. ⊎_elim (λ (e : f ≡ g). absurd (n e)) (λ l. Contains-append_right before after g l) (cons_cases f after g k))
    (Contains-append_cases before (f ∷ after) g m)

not_before_itself : (f g : Fact) → f ≡ g → fact_cmp f g ≡ Less → ⊥
not_before_itself f g e l =
    let t : fact_cmp f f ≡ Equal = tied_itself fact_total f in
    let s : fact_cmp f f ≡ Less = subst (λ (z : Fact). fact_cmp f z ≡ Less) (sym e) l in cc

one_out : (f : Fact) (before after : List Fact) → length (before ++ f ∷ after) ≡ length (before ++ after) + 1
one_out f [] after = omega arith
one_out f (x ∷ before) after = let e = one_out f before after in omega (arith, e)

pub no_longer : (fs gs : List Fact) → AreSorted fs → ((f : Fact) → Contains fs f → Contains gs f) → length fs ≤ length gs
unfolding IsStrictlySortedBy
no_longer [] gs s within = omega arith
no_longer (f ∷ fs) gs s within =
    let (before, after, e) = split_at f gs (within f (here f fs)) in
    let rest : length fs ≤ length (before ++ after) = no_longer fs (before ++ after) s.1
    (λ g m. beside_it f g before after (λ (same : f ≡ g). not_before_itself f g same (all_at (λ (z : Fact). fact_cmp f z ≡ Less) fs g s.0 m)) (subst (λ (zs : List Fact). Contains zs g) e (within g (there f fs g m)))) in
    let whole : length gs ≡ length (before ++ f ∷ after) = ap length e in
    let less = one_out f before after in
    omega (arith, rest, whole, less)
