-- Names and values by number.
use Rattle.std.proofs.Common.{◌≡◌, ℕ, ◌<◌, Bool, true, false, cond, List, [], ◌∷◌, get_or, refl, sym, ◌∙◌, ap, subst, arith}
use Rattle.std.specs.Prelude.{◌↔◌, Option, Some, None, MatchOption, slice_get, nat_eq, nat_lt}
use Rattle.std.specs.List.{IsDistinct, list_any, find}
use Rattle.std.specs.Cmp.Lexicographic.{pointwise, same_text, nat_list_eq_equiv}
use Rattle.std.specs.Cmp.{IsEquivalence}
use Rattle.std.specs.Ordering.{is_eq, ordering_then}
use Rattle.std.specs.declared.cmp.Ordering.{Ordering}
use Rattle.std.specs.declared.cmp.Ordering.TheVariants.{Less, Equal, Greater}
use Rattle.std.proofs.lemmas.Bool.{false≢true, ltb-true, ltb-false}
use Rattle.std.proofs.lemmas.Option.{slice_get_within, get_or_from_slice_get}
use Rattle.std.proofs.lemmas.Map.Keys.{apart_from_distinct, any_passes_from_place}
use Rattle.std.proofs.lemmas.Map.Lookups.{exact_bytes}
use Rattle.dl_base.specs.FactOrder.{value_cmp}
use Rattle.dl_base.specs.declared.names.Value.{Value}
use Rattle.dl_base.specs.contracts.names.ValuePartialEq.TheImpl as value_equal
use Rattle.dl_base.specs.contracts.names.ValueEq.TheImpl.Laws as value_eq_law
use Rattle.dl_base.specs.contracts.names.ValueOrd.TheImpl.Laws as value_law
use Rattle.dl_base.proofs.Places.{get_left}
use Rattle.fact_index.specs.Numbers.{AreOnce, IsGrown, StandsFor}

-- what is distinct stands at one place
module _ {X : Type 0} (eq : X → X → Bool) (laws : IsEquivalence eq) where
  not_before : (xs : List X) → IsDistinct eq xs → (i j : ℕ) (x : X) → slice_get xs i ≡ Some x → slice_get xs j ≡ Some x → i < j → ⊥
  not_before xs d i j x e f l =
      let within = slice_get_within xs j x f in
      let apart : eq (get_or xs i x) (get_or xs j x) ≡ false = apart_from_distinct eq xs i j x d l within in
      let a = get_or_from_slice_get xs i x x e in
      let b = get_or_from_slice_get xs j x x f in
      false≢true (sym apart ∙ ap (λ (y : X). eq y (get_or xs j x)) a ∙ ap (eq x) b ∙ laws.refl x)

  pub once_of : (xs : List X) → IsDistinct eq xs → AreOnce xs
  once_of xs d i j x e f = by (nat_lt i j) (nat_lt j i) refl refl
    where
      by : (b c : Bool) → nat_lt i j ≡ b → nat_lt j i ≡ c → i ≡ j
      by true c l m = absurd (not_before xs d i j x e f (ltb-true i j l))
      by false true l m = absurd (not_before xs d j i x f e (ltb-true j i m))
      by false false l m = let p = ltb-false i j l in let q = ltb-false j i m in omega (arith, p, q)

-- what a search finds passes
pub found_passes : {X : Type 0} (p : X → Bool) (xs : List X) (x : X) → Some x ≡ find p xs → p x ≡ true
found_passes p [] x e = cc
found_passes {X} p (y ∷ xs) x e = by (p y) refl e (found_passes p xs x)
  where
    by : (b : Bool) → p y ≡ b → Some x ≡ cond b (Some y) (find p xs) → (Some x ≡ find p xs → p x ≡ true) → p x ≡ true
    by true h f rest = let same : x ≡ y = cc in subst (λ (z : X). p z ≡ true) (sym same) h
    by false h f rest = rest f

pub none_stand : {X : Type 0} (eq : X → X → Bool) (xs : List X) (item : X) → false ≡ list_any (eq item) xs → (i : ℕ) (k : X) → ¬ StandsFor eq xs item i k
none_stand eq xs item e i k (g, t) = false≢true (e ∙ any_passes_from_place (eq item) xs i k g t)

-- the number of an item that stands at one place
module _ {X : Type 0} (eq : X → X → Bool) (same : (x : X) → eq x x ≡ true) (exact : (x y : X) → eq x y ≡ true → x ≡ y) where
  pub numbered_by : (xs : List X) (item : X) (n : ℕ) → (k : X) × StandsFor eq xs item n k → slice_get xs n ≡ Some item
  numbered_by xs item n (k, (g, t)) = g ∙ ap Some (sym (exact item k t))

  pub number_is : (xs : List X) (item : X) (r : Option ℕ) → AreOnce xs → MatchOption r ((i : ℕ) (k : X) → ¬ StandsFor eq xs item i k) (λ n. (k : X) × StandsFor eq xs item n k) → (i : ℕ) → (slice_get xs i ≡ Some item) ↔ (r ≡ Some i)
  number_is xs item None once h i = ((λ g. absurd (h i item (g, same item))), λ e. cc)
  number_is xs item (Some n) once h i = (
    (λ g. ap Some (once n i item (numbered_by xs item n h) g)),
    λ e. let is : n ≡ i = cc in subst (λ (j : ℕ). slice_get xs j ≡ Some item) is (numbered_by xs item n h),
  )

abbrev pub name_eq : List ℕ → List ℕ → Bool
name_eq = pointwise nat_eq

pub name_same : (a : List ℕ) → name_eq a a ≡ true
name_same = nat_list_eq_equiv.refl

pub name_exact : (a b : List ℕ) → name_eq a b ≡ true → a ≡ b
name_exact a b h = same_text a b (sym h)

abbrev pub value_eq : Value → Value → Bool
value_eq = value_equal.ghosts.eq

pub value_same : (v : Value) → value_eq v v ≡ true
value_same = value_eq_law.laws-law.refl

both : (o p : Ordering) → ordering_then o p ≡ Equal → (o ≡ Equal) × (p ≡ Equal)
both Less p h = cc
both Equal p h = (refl, h)
both Greater p h = cc

is_equal : (o : Ordering) → is_eq o ≡ true → o ≡ Equal
is_equal Less e = cc
is_equal Equal e = refl
is_equal Greater e = cc

exact_values : (v w : Value) → value_cmp v w ≡ Equal → v ≡ w
exact_values v w h =
    let first = both _ _ h in
    let second = both _ _ first.1 in
    let d : v.datatype ≡ w.datatype = exact_bytes _ _ first.0 in
    let t : v.tag ≡ w.tag = exact_bytes _ _ second.0 in
    let x : v.text ≡ w.text = exact_bytes _ _ second.1 in
    λ i. record { datatype = d i; tag = t i; text = x i }

pub value_exact : (v w : Value) → value_eq v w ≡ true → v ≡ w
value_exact v w h = exact_values v w (is_equal _ (sym (value_law.matches_eq-law v w) ∙ h))

-- what has a number keeps it
pub kept_at : {X : Type 0} (xs ys : List X) (i : ℕ) (x : X) → IsGrown xs ys → slice_get xs i ≡ Some x → slice_get ys i ≡ Some x
kept_at xs ys i x (more, e) h = subst (λ zs. slice_get zs i ≡ Some x) (sym e) (get_left xs more i x h)
