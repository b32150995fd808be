-- The patterns of one term, and how many they are.
use Rattle.std.proofs.Common.{◌≡◌, ◌≢◌, ℕ, ◌<◌, ◌≤◌, ◌+◌, ◌*◌, cond, List, [], ◌∷◌, ◌++◌, refl, sym, ap, subst, arith, ◌⊎◌, ⊎_elim}
use Rattle.std.specs.Prelude.{nat_eq}
use Rattle.std.proofs.lemmas.List.Sums.{sum_by-append}
use Rattle.dl_base.specs.declared.patterns.Pattern.{Pattern}
use Rattle.dl_base.specs.declared.patterns.Pattern.TheVariants as asked
use Rattle.dl_base.specs.declared.terms.Term.{Term}
use Rattle.conflict_rules.specs.Counts.{pattern_term, naming, one_if}
use Rattle.conflict_rules.proofs.Adding.{one_tells}
use Rattle.entail_guards.specs.Asking.{AddsOf, TwoEach, turned}
use Rattle.entail_guards.specs.declared.asking.Way.{Way}
use Rattle.entail_guards.specs.declared.asking.Way.TheVariants as way

-- the pattern of a term's facts names the term
pub turned_term : (by : Way) (t : Term) (p : Pattern) → pattern_term (turned by t p) ≡ t.0
turned_term way.Class t (asked.Class c) = refl
turned_term way.Class t (asked.ClassOf c a) = refl
turned_term way.Class t (asked.Role p) = refl
turned_term way.Class t (asked.RoleFrom p a) = refl
turned_term way.Class t (asked.RoleTo p b) = refl
turned_term way.Class t (asked.RoleBoth p a b) = refl
turned_term way.Class t (asked.RoleFromExcept p a b) = refl
turned_term way.Class t (asked.RoleToExcept p b a) = refl
turned_term way.Class t (asked.Attr u) = refl
turned_term way.Class t (asked.AttrOf u a) = refl
turned_term way.Class t (asked.AttrValue u v) = refl
turned_term way.Class t (asked.AttrBoth u a v) = refl
turned_term way.Class t (asked.AttrOfExcept u a v) = refl
turned_term way.Attr t (asked.Class c) = refl
turned_term way.Attr t (asked.ClassOf c a) = refl
turned_term way.Attr t (asked.Role p) = refl
turned_term way.Attr t (asked.RoleFrom p a) = refl
turned_term way.Attr t (asked.RoleTo p b) = refl
turned_term way.Attr t (asked.RoleBoth p a b) = refl
turned_term way.Attr t (asked.RoleFromExcept p a b) = refl
turned_term way.Attr t (asked.RoleToExcept p b a) = refl
turned_term way.Attr t (asked.Attr u) = refl
turned_term way.Attr t (asked.AttrOf u a) = refl
turned_term way.Attr t (asked.AttrValue u v) = refl
turned_term way.Attr t (asked.AttrBoth u a v) = refl
turned_term way.Attr t (asked.AttrOfExcept u a v) = refl
turned_term way.Direct t (asked.Class c) = refl
turned_term way.Direct t (asked.ClassOf c a) = refl
turned_term way.Direct t (asked.Role p) = refl
turned_term way.Direct t (asked.RoleFrom p a) = refl
turned_term way.Direct t (asked.RoleTo p b) = refl
turned_term way.Direct t (asked.RoleBoth p a b) = refl
turned_term way.Direct t (asked.RoleFromExcept p a b) = refl
turned_term way.Direct t (asked.RoleToExcept p b a) = refl
turned_term way.Direct t (asked.Attr u) = refl
turned_term way.Direct t (asked.AttrOf u a) = refl
turned_term way.Direct t (asked.AttrValue u v) = refl
turned_term way.Direct t (asked.AttrBoth u a v) = refl
turned_term way.Direct t (asked.AttrOfExcept u a v) = refl
turned_term way.Inverse t (asked.Class c) = refl
turned_term way.Inverse t (asked.ClassOf c a) = refl
turned_term way.Inverse t (asked.Role p) = refl
turned_term way.Inverse t (asked.RoleFrom p a) = refl
turned_term way.Inverse t (asked.RoleTo p b) = refl
turned_term way.Inverse t (asked.RoleBoth p a b) = refl
turned_term way.Inverse t (asked.RoleFromExcept p a b) = refl
turned_term way.Inverse t (asked.RoleToExcept p b a) = refl
turned_term way.Inverse t (asked.Attr u) = refl
turned_term way.Inverse t (asked.AttrOf u a) = refl
turned_term way.Inverse t (asked.AttrValue u v) = refl
turned_term way.Inverse t (asked.AttrBoth u a v) = refl
turned_term way.Inverse t (asked.AttrOfExcept u a v) = refl

pub adds_none : (m k : ℕ) (old : List Pattern) → AddsOf m k old old
adds_none m k old n = omega arith

pub adds_one : (by : Way) (t : Term) (p : Pattern) (old : List Pattern) → AddsOf t.0 1 old (old ++ turned by t p ∷ [])
adds_one by t p old n =
    let sum = sum_by-append (λ (q : Pattern). cond (nat_eq (pattern_term q) n) 1 0) old (turned by t p ∷ []) in
    let one : one_if (pattern_term (turned by t p)) n ≡ one_if t.0 n = ap (λ (k : ℕ). one_if k n) (turned_term by t p) in
    omega (arith, sum, one)

pub adds_two : (m : ℕ) (a b c : List Pattern) → AddsOf m 1 a b → AddsOf m 1 b c → AddsOf m 2 a c
adds_two m a b c h k n = let x = h n in let y = k n in omega (arith, x, y)

-- so far patterns of the terms below a number, two of each at most
pub record TwoBelow (number : ℕ) (patterns : List Pattern) : Type 0 where
  pub few : TwoEach patterns
  pub none : (n : ℕ) → number ≤ n → naming n patterns ≡ 0

pub two_none : TwoBelow 0 []
two_none = record { few = λ n. omega arith; none = λ n l. refl }

pub two_next : (number : ℕ) (old new : List Pattern) → TwoBelow number old → AddsOf number 2 old new → TwoBelow (number + 1) new
two_next number old new h add = record {
  few = λ n. let x = add n in let y = h.few n in ⊎_elim
      (λ t. let e : one_if number n ≡ 1 = t.0 in let z = rw e at x in let same : number ≤ n = omega (arith, t.1) in let w = h.none n same in omega (arith, z, w))
      (λ t. let e : one_if number n ≡ 0 = t.0 in let z = rw e at x in omega (arith, z, y))
      (one_tells number n);
  none = λ n l. let x = add n in let below : number ≤ n = omega (arith, l) in let y = h.none n below in ⊎_elim
      (λ t. absurd (omega (arith, t.1, l)))
      (λ t. let e : one_if number n ≡ 0 = t.0 in let z = rw e at x in omega (arith, z, y))
      (one_tells number n);
}
