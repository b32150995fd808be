-- The patterns that ask for the facts which entail what is asked for.
use Rattle.std.proofs.Common.{◌≡◌, List, [], ◌∷◌, ◌++◌, refl, sym, subst, inl, inr, ◌⊎◌, ⊎_elim, ℕ, ◌+◌, Option, Some, None, ap, ◌∙◌, arith}
use Rattle.std.specs.Prelude.{◌↔◌}
use Rattle.std.proofs.lemmas.Bool.{cases_lt}
use Rattle.std.proofs.lemmas.List.Elements.{Contains-append_left, Contains-append_right, Contains-append_cases}
use Rattle.dl_base.specs.declared.axioms.Axiom.{Axiom}
use Rattle.dl_base.specs.declared.names.Value.{Value}
use Rattle.dl_base.specs.declared.patterns.Pattern.{Pattern}
use Rattle.dl_base.specs.declared.patterns.Pattern.TheVariants as asked
use Rattle.dl_base.specs.declared.statements.Fact.{Fact}
use Rattle.dl_base.specs.declared.statements.Fact.TheVariants as fact
use Rattle.dl_base.specs.declared.terms.Kind.{Kind}
use Rattle.dl_base.specs.declared.terms.Kind.TheVariants as kind
use Rattle.dl_base.specs.declared.terms.Term.{Term}
use Rattle.dl_base.specs.declared.terms.RoleSide.TheVariants.{Direct, Inverse}
use Rattle.dl_base.specs.declared.terms.Basic.TheVariants as basic
use Rattle.dl_base.specs.Clash.{RoleReaches, AttrReaches}
use Rattle.dl_base.specs.Ontologies.{Theory, Knows, IsTerm}
use Rattle.dl_base.specs.Patterns.{Matches}
use Rattle.dl_base.specs.Reach.{ConceptReaches}
use Rattle.dl_base.proofs.Members.{here, alone}
use Rattle.entail_guards.specs.declared.asking.Way.TheVariants as way
use Rattle.entail_guards.specs.Asking.{AsksMore, AsksBelow, OfTerm, Finds}
use Rattle.entail_guards.specs.Following.{term_number}
use Rattle.entail_guards.specs.Matching.{FactMatches, ClassMatches, AttrMatches}

pub asks_none : (L : Type 0) (c : Pattern) (old : List Pattern) → ¬ L → AsksMore (λ f. L × Matches c f) old old
asks_none L c old none f = ((λ m. inl m), λ h. ⊎_elim (λ m. m) (λ q. absurd (none q.0)) h)

pub asks_one : (L : Type 0) (c : Pattern) (old : List Pattern) → L → AsksMore (λ f. L × Matches c f) old (old ++ c ∷ [])
asks_one L c old holds f = (
  (λ m. ⊎_elim (λ k. inl (m.0, k, m.2)) (λ k. inr (holds, subst (λ z. Matches z f) (sym (alone c m.0 k)) m.2)) (Contains-append_cases old (c ∷ []) m.0 m.1)),
  λ h. ⊎_elim (λ m. (m.0, Contains-append_left old (c ∷ []) m.0 m.1, m.2)) (λ q. (c, Contains-append_right old (c ∷ []) c (here c []), q.1)) h,
)

asks_both : (P Q : Fact → Type 0) (old mid new : List Pattern) → AsksMore P old mid → AsksMore Q mid new → AsksMore (λ f. P f ⊎ Q f) old new
asks_both P Q old mid new h k f = (
  (λ m. ⊎_elim (λ x. ⊎_elim (λ y. inl y) (λ y. inr (inl y)) ((h f).0 x)) (λ x. inr (inr x)) ((k f).0 m)),
  λ z. ⊎_elim (λ x. (k f).1 (inl ((h f).1 (inl x)))) (λ x. ⊎_elim (λ y. (k f).1 (inl ((h f).1 (inr y)))) (λ y. (k f).1 (inr y)) x) z,
)

asks_as : (P Q : Fact → Type 0) (old new : List Pattern) → ((f : Fact) → P f ↔ Q f) → AsksMore P old new → AsksMore Q old new
asks_as P Q old new same h f = (
  (λ m. ⊎_elim (λ x. inl x) (λ x. inr ((same f).0 x)) ((h f).0 m)),
  λ z. ⊎_elim (λ x. (h f).1 (inl x)) (λ x. (h f).1 (inr ((same f).1 x))) z,
)

pub asks_role : (theory : Theory) (t : Term) (p : Pattern) (old mid new : List Pattern) → IsTerm theory t kind.Role
    → AsksMore (Finds theory.axioms way.Direct t p) old mid → AsksMore (Finds theory.axioms way.Inverse t p) mid new → AsksMore (OfTerm theory t p) old new
asks_role theory t p old mid new role h k = asks_as (λ f. Finds theory.axioms way.Direct t p f ⊎ Finds theory.axioms way.Inverse t p f) (OfTerm theory t p) old new
    (λ f. ((λ z. inl (role, z)), λ z. ⊎_elim (λ x. x.1) (λ x. absurd (x.0 role)) z))
    (asks_both (Finds theory.axioms way.Direct t p) (Finds theory.axioms way.Inverse t p) old mid new h k)

pub asks_other : (theory : Theory) (t : Term) (p : Pattern) (old mid new : List Pattern) → ¬ IsTerm theory t kind.Role
    → AsksMore (Finds theory.axioms way.Class t p) old mid → AsksMore (Finds theory.axioms way.Attr t p) mid new → AsksMore (OfTerm theory t p) old new
asks_other theory t p old mid new none h k = asks_as (λ f. Finds theory.axioms way.Class t p f ⊎ Finds theory.axioms way.Attr t p f) (OfTerm theory t p) old new
    (λ f. ((λ z. inr (none, z)), λ z. ⊎_elim (λ x. absurd (none x.0)) (λ x. x.1) z))
    (asks_both (Finds theory.axioms way.Class t p) (Finds theory.axioms way.Attr t p) old mid new h k)

pub asks_next : (theory : Theory) (p : Pattern) (n : ℕ) (old new : List Pattern) → AsksBelow theory p n old → AsksMore (OfTerm theory (record { 0 = n }) p) old new → AsksBelow theory p (n + 1) new
asks_next theory p n old new h k f = (
  (λ m. ⊎_elim (λ a. let r = (h f).0 a in (r.0, omega (arith, r.1), r.2)) (λ b. (n, omega arith, b)) ((k f).0 m)),
  λ r. ⊎_elim
      (λ l. (k f).1 (inl ((h f).1 (r.0, l, r.2))))
      (λ l. let e : r.0 ≡ n = omega (arith, r.1, l) in (k f).1 (inr (subst (λ (m : ℕ). OfTerm theory (record { 0 = m }) p f) e r.2)))
      (cases_lt r.0 n),
)

module _ (axioms : List Axiom) where
  class_sound : (t : Term) (p : Pattern) (f : Fact) → Finds axioms way.Class t p f → FactMatches axioms f p
  class_sound t (asked.Class c) (fact.Class k x) h = subst (λ z. ConceptReaches axioms (basic.Class z) (basic.Class c)) h.1 h.0
  class_sound t (asked.Class c) _ h = absurd h.1
  class_sound t (asked.ClassOf c a) (fact.Class k x) h = (h.1.1, subst (λ z. ConceptReaches axioms (basic.Class z) (basic.Class c)) h.1.0 h.0)
  class_sound t (asked.ClassOf c a) _ h = absurd h.1
  class_sound t _ f h = absurd h.0

  domain : (t u c : Term) → t ≡ u → ConceptReaches axioms (basic.Domain t) (basic.Class c) → ConceptReaches axioms (basic.Domain u) (basic.Class c)
  domain t u c e h = subst (λ z. ConceptReaches axioms (basic.Domain z) (basic.Class c)) e h

  over : (t u w : Term) → t ≡ u → AttrReaches axioms t w → AttrReaches axioms u w
  over t u w e h = subst (λ z. AttrReaches axioms z w) e h

  attr_sound : (t : Term) (p : Pattern) (f : Fact) → Finds axioms way.Attr t p f → FactMatches axioms f p
  attr_sound t (asked.Class c) (fact.Attr u x v) (inl h, m) = inl (domain t u c m h)
  attr_sound t (asked.ClassOf c a) (fact.Attr u x v) (inl h, m) = inl (m.1, domain t u c m.0 h)
  attr_sound t (asked.Attr w) (fact.Attr u x v) (inr h, m) = inr (over t u w m h)
  attr_sound t (asked.AttrOf w a) (fact.Attr u x v) (inr h, m) = inr (m.1, over t u w m.0 h)
  attr_sound t (asked.AttrValue w y) (fact.Attr u x v) (inr h, m) = inr (m.1, over t u w m.0 h)
  attr_sound t (asked.AttrBoth w a y) (fact.Attr u x v) (inr h, m) = inr (m.1, m.2, over t u w m.0 h)
  attr_sound t (asked.AttrOfExcept w a y) (fact.Attr u x v) (inr h, m) = inr (m.1, m.2, over t u w m.0 h)
  attr_sound t _ (fact.Attr u x v) (inl h, m) = absurd h
  attr_sound t _ (fact.Attr u x v) (inr h, m) = absurd h
  attr_sound t (asked.Class c) _ h = absurd h.1
  attr_sound t (asked.ClassOf c a) _ h = absurd h.1
  attr_sound t (asked.AttrOf w a) _ h = absurd h.1
  attr_sound t (asked.AttrValue w y) _ h = absurd h.1
  attr_sound t (asked.AttrBoth w a y) _ h = absurd h.1
  attr_sound t (asked.AttrOfExcept w a y) _ h = absurd h.1
  attr_sound t _ _ h = absurd h.1

  from : (t q c : Term) → t ≡ q → ConceptReaches axioms (basic.Exists (Direct t)) (basic.Class c) → ConceptReaches axioms (basic.Exists (Direct q)) (basic.Class c)
  from t q c e h = subst (λ z. ConceptReaches axioms (basic.Exists (Direct z)) (basic.Class c)) e h

  to : (t q c : Term) → t ≡ q → ConceptReaches axioms (basic.Exists (Inverse t)) (basic.Class c) → ConceptReaches axioms (basic.Exists (Inverse q)) (basic.Class c)
  to t q c e h = subst (λ z. ConceptReaches axioms (basic.Exists (Inverse z)) (basic.Class c)) e h

  same : (t q r : Term) → t ≡ q → RoleReaches axioms (Direct t) (Direct r) → RoleReaches axioms (Direct q) (Direct r)
  same t q r e h = subst (λ z. RoleReaches axioms (Direct z) (Direct r)) e h

  round : (t q r : Term) → t ≡ q → RoleReaches axioms (Inverse t) (Direct r) → RoleReaches axioms (Inverse q) (Direct r)
  round t q r e h = subst (λ z. RoleReaches axioms (Inverse z) (Direct r)) e h

  direct_sound : (t : Term) (p : Pattern) (f : Fact) → Finds axioms way.Direct t p f → FactMatches axioms f p
  direct_sound t (asked.Class c) (fact.Role q x y) (inl h, m) = inl (inl (from t q c m h))
  direct_sound t (asked.ClassOf c a) (fact.Role q x y) (inl h, m) = inl (inl (m.1, from t q c m.0 h))
  direct_sound t (asked.Role r) (fact.Role q x y) (inr h, m) = inr (inl (same t q r m h))
  direct_sound t (asked.RoleFrom r a) (fact.Role q x y) (inr h, m) = inr (inl (m.1, same t q r m.0 h))
  direct_sound t (asked.RoleTo r b) (fact.Role q x y) (inr h, m) = inr (inl (m.1, same t q r m.0 h))
  direct_sound t (asked.RoleBoth r a b) (fact.Role q x y) (inr h, m) = inr (inl (m.1, m.2, same t q r m.0 h))
  direct_sound t (asked.RoleFromExcept r a b) (fact.Role q x y) (inr h, m) = inr (inl (m.1, m.2, same t q r m.0 h))
  direct_sound t (asked.RoleToExcept r b a) (fact.Role q x y) (inr h, m) = inr (inl (m.1, m.2, same t q r m.0 h))
  direct_sound t _ (fact.Role q x y) (inl h, m) = absurd h
  direct_sound t _ (fact.Role q x y) (inr h, m) = absurd h
  direct_sound t _ _ h = absurd h.1

  inverse_sound : (t : Term) (p : Pattern) (f : Fact) → Finds axioms way.Inverse t p f → FactMatches axioms f p
  inverse_sound t (asked.Class c) (fact.Role q x y) (inl h, m) = inl (inr (to t q c m h))
  inverse_sound t (asked.ClassOf c a) (fact.Role q x y) (inl h, m) = inl (inr (m.1, to t q c m.0 h))
  inverse_sound t (asked.Role r) (fact.Role q x y) (inr h, m) = inr (inr (round t q r m h))
  inverse_sound t (asked.RoleFrom r a) (fact.Role q x y) (inr h, m) = inr (inr (m.1, round t q r m.0 h))
  inverse_sound t (asked.RoleTo r b) (fact.Role q x y) (inr h, m) = inr (inr (m.1, round t q r m.0 h))
  inverse_sound t (asked.RoleBoth r a b) (fact.Role q x y) (inr h, m) = inr (inr (m.2, m.1, round t q r m.0 h))
  inverse_sound t (asked.RoleFromExcept r a b) (fact.Role q x y) (inr h, m) = inr (inr (m.1, m.2, round t q r m.0 h))
  inverse_sound t (asked.RoleToExcept r b a) (fact.Role q x y) (inr h, m) = inr (inr (m.1, m.2, round t q r m.0 h))
  inverse_sound t _ (fact.Role q x y) (inl h, m) = absurd h
  inverse_sound t _ (fact.Role q x y) (inr h, m) = absurd h
  inverse_sound t _ _ h = absurd h.1

  class_complete : (t : Term) (p : Pattern) (x : List ℕ) → ClassMatches axioms (basic.Class t) x p → Finds axioms way.Class t p (fact.Class t x)
  class_complete t (asked.Class c) x h = (h, refl)
  class_complete t (asked.ClassOf c a) x h = (h.1, (refl, h.0))
  class_complete t _ x h = absurd h

  attr_complete : (t : Term) (p : Pattern) (x : List ℕ) (v : Value) → ClassMatches axioms (basic.Domain t) x p ⊎ AttrMatches axioms t x v p → Finds axioms way.Attr t p (fact.Attr t x v)
  attr_complete t (asked.Class c) x v (inl h) = (inl h, refl)
  attr_complete t (asked.ClassOf c a) x v (inl h) = (inl h.1, (refl, h.0))
  attr_complete t (asked.Attr w) x v (inr h) = (inr h, refl)
  attr_complete t (asked.AttrOf w a) x v (inr h) = (inr h.1, (refl, h.0))
  attr_complete t (asked.AttrValue w y) x v (inr h) = (inr h.1, (refl, h.0))
  attr_complete t (asked.AttrBoth w a y) x v (inr h) = (inr h.2, (refl, h.0, h.1))
  attr_complete t (asked.AttrOfExcept w a y) x v (inr h) = (inr h.2, (refl, h.0, h.1))
  attr_complete t _ x v (inl h) = absurd h
  attr_complete t _ x v (inr h) = absurd h

  role_complete : (t : Term) (p : Pattern) (x y : List ℕ) → FactMatches axioms (fact.Role t x y) p → Finds axioms way.Direct t p (fact.Role t x y) ⊎ Finds axioms way.Inverse t p (fact.Role t x y)
  role_complete t (asked.Class c) x y (inl (inl h)) = inl (inl h, refl)
  role_complete t (asked.Class c) x y (inl (inr h)) = inr (inl h, refl)
  role_complete t (asked.ClassOf c a) x y (inl (inl h)) = inl (inl h.1, (refl, h.0))
  role_complete t (asked.ClassOf c a) x y (inl (inr h)) = inr (inl h.1, (refl, h.0))
  role_complete t (asked.Role r) x y (inr (inl h)) = inl (inr h, refl)
  role_complete t (asked.Role r) x y (inr (inr h)) = inr (inr h, refl)
  role_complete t (asked.RoleFrom r a) x y (inr (inl h)) = inl (inr h.1, (refl, h.0))
  role_complete t (asked.RoleFrom r a) x y (inr (inr h)) = inr (inr h.1, (refl, h.0))
  role_complete t (asked.RoleTo r b) x y (inr (inl h)) = inl (inr h.1, (refl, h.0))
  role_complete t (asked.RoleTo r b) x y (inr (inr h)) = inr (inr h.1, (refl, h.0))
  role_complete t (asked.RoleBoth r a b) x y (inr (inl h)) = inl (inr h.2, (refl, h.0, h.1))
  role_complete t (asked.RoleBoth r a b) x y (inr (inr h)) = inr (inr h.2, (refl, h.1, h.0))
  role_complete t (asked.RoleFromExcept r a b) x y (inr (inl h)) = inl (inr h.2, (refl, h.0, h.1))
  role_complete t (asked.RoleFromExcept r a b) x y (inr (inr h)) = inr (inr h.2, (refl, h.0, h.1))
  role_complete t (asked.RoleToExcept r b a) x y (inr (inl h)) = inl (inr h.2, (refl, h.0, h.1))
  role_complete t (asked.RoleToExcept r b a) x y (inr (inr h)) = inr (inr h.2, (refl, h.0, h.1))
  role_complete t _ x y (inl (inl h)) = absurd h
  role_complete t _ x y (inl (inr h)) = absurd h
  role_complete t _ x y (inr (inl h)) = absurd h
  role_complete t _ x y (inr (inr h)) = absurd h

kind_in : Option (List ℕ × Kind) → Kind
kind_in (Some t) = t.1
kind_in None = kind.Class

unlike : (o : Option (List ℕ × Kind)) (s t : List ℕ × Kind) → o ≡ Some s → o ≡ Some t → s.1 ≡ t.1
unfolding kind_in
unlike o s t e d = ap kind_in (sym e ∙ d)

class_is_no_role : kind.Class ≡ kind.Role → ⊥
class_is_no_role e = cc

attr_is_no_role : kind.Attr ≡ kind.Role → ⊥
attr_is_no_role e = cc

pub found_sound : (theory : Theory) (t : Term) (p : Pattern) (f : Fact) → OfTerm theory t p f → FactMatches theory.axioms f p
found_sound theory t p f (inl (r, inl h)) = direct_sound theory.axioms t p f h
found_sound theory t p f (inl (r, inr h)) = inverse_sound theory.axioms t p f h
found_sound theory t p f (inr (r, inl h)) = class_sound theory.axioms t p f h
found_sound theory t p f (inr (r, inr h)) = attr_sound theory.axioms t p f h

pub found_complete : (theory : Theory) (p : Pattern) (f : Fact) → Knows theory f → FactMatches theory.axioms f p → OfTerm theory (record { 0 = term_number f }) p f
found_complete theory p (fact.Class t x) k h = inr ((λ r. class_is_no_role (unlike _ (k.0, kind.Class) (r.0, kind.Role) k.1 r.1)), inl (class_complete theory.axioms t p x h))
found_complete theory p (fact.Role t x y) k h = inl (k, role_complete theory.axioms t p x y h)
found_complete theory p (fact.Attr t x v) k h = inr ((λ r. attr_is_no_role (unlike _ (k.0, kind.Attr) (r.0, kind.Role) k.1 r.1)), inr (attr_complete theory.axioms t p x v h))
