-- Lists of guards, with how many of them name a term.
use Rattle.std.specs.Prelude.{◌≡◌, ◌≤◌, ◌<◌, ◌+◌, ◌*◌, ◌↔◌, ◌⊎◌, ℕ, cond, nat_eq, List, Contains, count_by, length}
use Rattle.dl_base.specs.declared.axioms.Axiom.{Axiom}
use Rattle.dl_base.specs.declared.terms.Term.{Term}
use Rattle.dl_base.specs.declared.terms.RoleSide.TheVariants.{Direct, Inverse}
use Rattle.dl_base.specs.declared.terms.Basic.{Basic}
use Rattle.dl_base.specs.declared.terms.Basic.TheVariants as basic
use Rattle.dl_base.specs.declared.patterns.Pattern.{Pattern}
use Rattle.dl_base.specs.declared.patterns.Pattern.TheVariants as asked
use Rattle.dl_laws.specs.Meeting.{AreDisjointConcepts}

abbrev pub pattern_term : Pattern → ℕ
pattern_term (asked.Class n) = n.0
pattern_term (asked.ClassOf n a) = n.0
pattern_term (asked.Role n) = n.0
pattern_term (asked.RoleFrom n a) = n.0
pattern_term (asked.RoleTo n b) = n.0
pattern_term (asked.RoleBoth n a b) = n.0
pattern_term (asked.RoleFromExcept n a b) = n.0
pattern_term (asked.RoleToExcept n a b) = n.0
pattern_term (asked.Attr n) = n.0
pattern_term (asked.AttrOf n a) = n.0
pattern_term (asked.AttrValue n v) = n.0
pattern_term (asked.AttrBoth n a v) = n.0
pattern_term (asked.AttrOfExcept n a v) = n.0

-- how many patterns name the term
abbrev pub naming : ℕ → List Pattern → ℕ
naming n patterns = count_by (λ p. nat_eq (pattern_term p) n) patterns

abbrev pub one_if : ℕ → ℕ → ℕ
one_if m n = cond (nat_eq m n) 1 0

-- patterns of term m were added, k at most: those of which Q holds
pub record AreAdded (Q : Pattern → Type 0) (m k : ℕ) (old new : List Pattern) : Type 0 where
  pub each : (p : Pattern) → Contains new p ↔ (Contains old p ⊎ Q p)
  pub few : (n : ℕ) → naming n new ≤ naming n old + k * one_if m n
  pub size : length new ≤ length old + k

-- the pattern is this one, where the two concepts meet
abbrev pub IsWhere : List Axiom → Basic → Basic → Pattern → Pattern → Type 0
IsWhere axioms b c it p = (p ≡ it) × AreDisjointConcepts axioms b c

-- a guard of someone in a concept, among the facts of one term
abbrev pub IsGuardAt : List Axiom → List ℕ → Basic → Term → Pattern → Type 0
IsGuardAt axioms a b t p =
    IsWhere axioms b (basic.Class t) (asked.ClassOf t a) p
    ⊎ (IsWhere axioms b (basic.Exists (Direct t)) (asked.RoleFrom t a) p
    ⊎ (IsWhere axioms b (basic.Exists (Inverse t)) (asked.RoleTo t a) p
    ⊎ IsWhere axioms b (basic.Domain t) (asked.AttrOf t a) p))

-- Q names no guard of a term from one number up to another
abbrev pub HasNoGuard : (Term → Pattern → Type 0) → ℕ → ℕ → Type 0
HasNoGuard Q from to = (t : Term) → from ≤ t.0 → t.0 < to → (p : Pattern) → ¬ Q t p

-- the guards that Q names, among the facts of the terms below a number: so many of a term at most
pub record AreGuardsBelow (Q : Term → Pattern → Type 0) (most number : ℕ) (guards : List Pattern) : Type 0 where
  pub each : (p : Pattern) → Contains guards p ↔ ((t : Term) × (t.0 < number) × Q t p)
  pub few : (n : ℕ) → naming n guards ≤ most
  pub none : (n : ℕ) → number ≤ n → naming n guards ≡ 0
  pub size : length guards ≤ most * number
