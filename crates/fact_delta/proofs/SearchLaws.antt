-- What a search among sorted facts finds.
use Rattle.std.proofs.Common.{◌≡◌, ℕ, zero, suc, ◌<◌, ◌≤◌, IsTrue, Result, Ok, Err, List, [], ◌∷◌, length, get_or, refl, sym, ◌∙◌, subst, ⊎_elim, arith}
use Rattle.std.specs.Prelude.{◌↔◌, Contains, is_ok}
use Rattle.std.specs.List.Sorted.{IsStrictlySortedBy, IsBinarySearchResult, IsSearchInRange}
use Rattle.std.specs.Ordering.{ordering_index}
use Rattle.std.specs.declared.cmp.Ordering.{Ordering}
use Rattle.std.specs.declared.cmp.Ordering.TheVariants.{Less, Equal, Greater}
use Rattle.std.proofs.lemmas.Bool.{false≢true, cases_order}
use Rattle.std.proofs.lemmas.Cmp.{tied_itself}
use Rattle.std.proofs.lemmas.List.Elements.{Contains-get_or}
use Rattle.dl_base.specs.declared.statements.Fact.{Fact}
use Rattle.dl_base.specs.FactOrder.{AreSorted, fact_cmp}
use Rattle.dl_base.proofs.OrderLaws.{fact_total, exact_facts}
use Rattle.dl_base.proofs.SortedLaws.{all_at}

module _ (f : Fact) where
  at_most_two : (o : Ordering) → ordering_index o ≤ 2
  at_most_two Less = omega arith
  at_most_two Equal = omega arith
  at_most_two Greater = omega arith

  -- an earlier fact compares no higher
  no_higher : (x y : Fact) (o : Ordering) → fact_cmp y f ≡ o → fact_cmp x y ≡ Less → ordering_index (fact_cmp x f) ≤ ordering_index o
  no_higher x y Less e l = let s : fact_cmp x f ≡ Less = fact_total.trans x y f l e in subst (λ (p : Ordering). ordering_index p ≤ 0) (sym s) (omega arith)
  no_higher x y Equal e l = let s : fact_cmp x f ≡ Less = subst (λ z. fact_cmp x z ≡ Less) (exact_facts y f e) l in subst (λ (p : Ordering). ordering_index p ≤ 1) (sym s) (omega arith)
  no_higher x y Greater e l = at_most_two (fact_cmp x f)

  -- the comparisons with f rise along sorted facts
  rises : (facts : List Fact) → AreSorted facts → (i j : ℕ) (d : Fact) → i ≤ j → j < length facts → ordering_index (fact_cmp (get_or facts i d) f) ≤ ordering_index (fact_cmp (get_or facts j d) f)
  unfolding IsStrictlySortedBy
  rises [] s i j d l m = absurd (omega (arith, m))
  rises (x ∷ xs) s zero zero d l m = omega arith
  rises (x ∷ xs) s zero (suc j) d l m = no_higher x (get_or xs j d) (fact_cmp (get_or xs j d) f) refl (all_at (λ y. fact_cmp x y ≡ Less) xs (get_or xs j d) s.0 (Contains-get_or xs j d (omega (arith, m))))
  rises (x ∷ xs) s (suc i) zero d l m = absurd (omega (arith, l))
  rises (x ∷ xs) s (suc i) (suc j) d l m = rises xs s.1 i j d (omega (arith, l)) (omega (arith, m))

  not_itself : (g : Fact) (o : Ordering) → g ≡ f → fact_cmp g f ≡ o → o ≡ Equal
  not_itself g o e h = sym h ∙ (subst (λ z. fact_cmp z f ≡ Equal) (sym e) (tied_itself fact_total f))

  pub searched : (facts : List Fact) → AreSorted facts → (r : Result ℕ ℕ) → IsSearchInRange r (length facts) → IsBinarySearchResult (λ y. fact_cmp y f) facts r → IsTrue (is_ok r) ↔ Contains facts f
  searched facts s (Ok i) range equal = ((λ t. (i, range, exact_facts (get_or facts i f) f (equal f))), λ m. refl)
  searched facts s (Err i) range parted = (
    (λ t. absurd (false≢true t)),
    λ m.
        let at = parted (rises facts s) in
        ⊎_elim
        (λ e. let h = not_itself (get_or facts m.0 f) Greater m.2 (at.1 m.0 f (omega (arith, e)) m.1) in cc)
        (λ o. ⊎_elim
        (λ l. let h = not_itself (get_or facts m.0 f) Less m.2 (at.0 m.0 f (omega arith) l) in cc)
        (λ l. let h = not_itself (get_or facts m.0 f) Greater m.2 (at.1 m.0 f (omega (arith, l)) m.1) in cc)
        o)
        (cases_order m.0 i),
  )
