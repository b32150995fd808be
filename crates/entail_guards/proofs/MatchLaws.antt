-- One fact entails a fact that is asked for exactly where reachability tells it.
use Rattle.std.proofs.Common.{◌≡◌, List, refl, sym, subst, inl, inr, ℕ}
use Rattle.std.specs.Prelude.{◌↔◌}
use Rattle.dl_base.specs.declared.axioms.Axiom.{Axiom}
use Rattle.dl_base.specs.declared.names.Value.{Value}
use Rattle.dl_base.specs.declared.patterns.Pattern.{Pattern}
use Rattle.dl_base.specs.declared.patterns.Pattern.TheVariants as asked
use Rattle.dl_base.specs.declared.statements.Fact.{Fact}
use Rattle.dl_base.specs.declared.statements.Fact.TheVariants as fact
use Rattle.dl_base.specs.declared.terms.Term.{Term}
use Rattle.dl_base.specs.declared.terms.RoleSide.{RoleSide}
use Rattle.dl_base.specs.declared.terms.RoleSide.TheVariants.{Direct, Inverse}
use Rattle.dl_base.specs.declared.terms.Basic.{Basic}
use Rattle.dl_base.specs.declared.terms.Basic.TheVariants as basic
use Rattle.dl_base.specs.Clash.{RoleReaches, AttrReaches}
use Rattle.dl_base.specs.Patterns.{Matches}
use Rattle.dl_base.specs.Reach.{ConceptReaches}
use Rattle.entail_guards.specs.Entailing.{Entails}
use Rattle.entail_guards.specs.Matching.{EntailsMatch, FactMatches, ClassMatches, RoleMatches, AttrMatches}
use Rattle.entail_guards.proofs.Entailment.{entails_is}

module _ (axioms : List Axiom) where
  class_into : (from : Basic) (x : List ℕ) (p : Pattern) → ClassMatches axioms from x p → (c : Term) × ConceptReaches axioms from (basic.Class c) × Matches p (fact.Class c x)
  class_into from x (asked.Class c) h = (c, h, refl)
  class_into from x (asked.ClassOf c a) h = (c, h.1, (refl, h.0))
  class_into from x _ h = absurd h

  class_from : (from : Basic) (x : List ℕ) (p : Pattern) (c : Term) → ConceptReaches axioms from (basic.Class c) → Matches p (fact.Class c x) → ClassMatches axioms from x p
  class_from from x (asked.Class d) c h m = subst (λ z. ConceptReaches axioms from (basic.Class z)) (sym m) h
  class_from from x (asked.ClassOf d a) c h m = (m.1, subst (λ z. ConceptReaches axioms from (basic.Class z)) (sym m.0) h)
  class_from from x _ c h m = absurd m

  role_into : (from : RoleSide) (x y : List ℕ) (p : Pattern) → RoleMatches axioms from x y p → (r : Term) × RoleReaches axioms from (Direct r) × Matches p (fact.Role r x y)
  role_into from x y (asked.Role r) h = (r, h, refl)
  role_into from x y (asked.RoleFrom r a) h = (r, h.1, (refl, h.0))
  role_into from x y (asked.RoleTo r b) h = (r, h.1, (refl, h.0))
  role_into from x y (asked.RoleBoth r a b) h = (r, h.2, (refl, h.0, h.1))
  role_into from x y (asked.RoleFromExcept r a b) h = (r, h.2, (refl, h.0, h.1))
  role_into from x y (asked.RoleToExcept r b a) h = (r, h.2, (refl, h.0, h.1))
  role_into from x y _ h = absurd h

  above : (from : RoleSide) (d r : Term) → d ≡ r → RoleReaches axioms from (Direct r) → RoleReaches axioms from (Direct d)
  above from d r e h = subst (λ z. RoleReaches axioms from (Direct z)) (sym e) h

  role_from : (from : RoleSide) (x y : List ℕ) (p : Pattern) (r : Term) → RoleReaches axioms from (Direct r) → Matches p (fact.Role r x y) → RoleMatches axioms from x y p
  role_from from x y (asked.Role d) r h m = above from d r m h
  role_from from x y (asked.RoleFrom d a) r h m = (m.1, above from d r m.0 h)
  role_from from x y (asked.RoleTo d b) r h m = (m.1, above from d r m.0 h)
  role_from from x y (asked.RoleBoth d a b) r h m = (m.1, m.2, above from d r m.0 h)
  role_from from x y (asked.RoleFromExcept d a b) r h m = (m.1, m.2, above from d r m.0 h)
  role_from from x y (asked.RoleToExcept d b a) r h m = (m.1, m.2, above from d r m.0 h)
  role_from from x y _ r h m = absurd m

  attr_into : (from : Term) (x : List ℕ) (v : Value) (p : Pattern) → AttrMatches axioms from x v p → (w : Term) × AttrReaches axioms from w × Matches p (fact.Attr w x v)
  attr_into from x v (asked.Attr u) h = (u, h, refl)
  attr_into from x v (asked.AttrOf u a) h = (u, h.1, (refl, h.0))
  attr_into from x v (asked.AttrValue u w) h = (u, h.1, (refl, h.0))
  attr_into from x v (asked.AttrBoth u a w) h = (u, h.2, (refl, h.0, h.1))
  attr_into from x v (asked.AttrOfExcept u a w) h = (u, h.2, (refl, h.0, h.1))
  attr_into from x v _ h = absurd h

  over : (from d w : Term) → d ≡ w → AttrReaches axioms from w → AttrReaches axioms from d
  over from d w e h = subst (λ z. AttrReaches axioms from z) (sym e) h

  attr_from : (from : Term) (x : List ℕ) (v : Value) (p : Pattern) (w : Term) → AttrReaches axioms from w → Matches p (fact.Attr w x v) → AttrMatches axioms from x v p
  attr_from from x v (asked.Attr u) w h m = over from u w m h
  attr_from from x v (asked.AttrOf u a) w h m = (m.1, over from u w m.0 h)
  attr_from from x v (asked.AttrValue u t) w h m = (m.1, over from u w m.0 h)
  attr_from from x v (asked.AttrBoth u a t) w h m = (m.1, m.2, over from u w m.0 h)
  attr_from from x v (asked.AttrOfExcept u a t) w h m = (m.1, m.2, over from u w m.0 h)
  attr_from from x v _ w h m = absurd m

  abbrev Some : Fact → Pattern → Type 0
  Some f p = (g : Fact) × Entails axioms f g × Matches p g

  match_into : (f : Fact) (p : Pattern) → FactMatches axioms f p → Some f p
  match_into (fact.Class t a) p h = let r = class_into (basic.Class t) a p h in (fact.Class r.0 a, (refl, r.1), r.2)
  match_into (fact.Role q a b) p (inl (inl h)) = let r = class_into (basic.Exists (Direct q)) a p h in (fact.Class r.0 a, inl (refl, r.1), r.2)
  match_into (fact.Role q a b) p (inl (inr h)) = let r = class_into (basic.Exists (Inverse q)) b p h in (fact.Class r.0 b, inr (refl, r.1), r.2)
  match_into (fact.Role q a b) p (inr (inl h)) = let r = role_into (Direct q) a b p h in (fact.Role r.0 a b, inl (refl, refl, r.1), r.2)
  match_into (fact.Role q a b) p (inr (inr h)) = let r = role_into (Inverse q) b a p h in (fact.Role r.0 b a, inr (refl, refl, r.1), r.2)
  match_into (fact.Attr u a v) p (inl h) = let r = class_into (basic.Domain u) a p h in (fact.Class r.0 a, (refl, r.1), r.2)
  match_into (fact.Attr u a v) p (inr h) = let r = attr_into u a v p h in (fact.Attr r.0 a v, (refl, refl, r.1), r.2)

  class_at : (p : Pattern) (k : Term) (x y : List ℕ) → x ≡ y → Matches p (fact.Class k x) → Matches p (fact.Class k y)
  class_at p k x y e m = subst (λ (z : List ℕ). Matches p (fact.Class k z)) e m

  role_at : (p : Pattern) (r : Term) (x y a b : List ℕ) → x ≡ a → y ≡ b → Matches p (fact.Role r x y) → Matches p (fact.Role r a b)
  role_at p r x y a b d e m = subst (λ (z : List ℕ). Matches p (fact.Role r a z)) e (subst (λ (z : List ℕ). Matches p (fact.Role r z y)) d m)

  attr_at : (p : Pattern) (w : Term) (x a : List ℕ) (y v : Value) → x ≡ a → y ≡ v → Matches p (fact.Attr w x y) → Matches p (fact.Attr w a v)
  attr_at p w x a y v d e m = subst (λ (z : Value). Matches p (fact.Attr w a z)) e (subst (λ (z : List ℕ). Matches p (fact.Attr w z y)) d m)

  match_from : (f : Fact) (p : Pattern) (g : Fact) → Entails axioms f g → Matches p g → FactMatches axioms f p
  match_from (fact.Class t a) p (fact.Class k x) h m = class_from (basic.Class t) a p k h.1 (class_at p k x a h.0 m)
  match_from (fact.Class t a) p (fact.Role r x y) h m = absurd h
  match_from (fact.Class t a) p (fact.Attr w x y) h m = absurd h
  match_from (fact.Role q a b) p (fact.Class k x) (inl h) m = inl (inl (class_from (basic.Exists (Direct q)) a p k h.1 (class_at p k x a h.0 m)))
  match_from (fact.Role q a b) p (fact.Class k x) (inr h) m = inl (inr (class_from (basic.Exists (Inverse q)) b p k h.1 (class_at p k x b h.0 m)))
  match_from (fact.Role q a b) p (fact.Role r x y) (inl h) m = inr (inl (role_from (Direct q) a b p r h.2 (role_at p r x y a b h.0 h.1 m)))
  match_from (fact.Role q a b) p (fact.Role r x y) (inr h) m = inr (inr (role_from (Inverse q) b a p r h.2 (role_at p r x y b a h.0 h.1 m)))
  match_from (fact.Role q a b) p (fact.Attr w x y) h m = absurd h
  match_from (fact.Attr u a v) p (fact.Class k x) h m = inl (class_from (basic.Domain u) a p k h.1 (class_at p k x a h.0 m))
  match_from (fact.Attr u a v) p (fact.Role r x y) h m = absurd h
  match_from (fact.Attr u a v) p (fact.Attr w x y) h m = inr (attr_from u a v p w h.2 (attr_at p w x a y v h.0 h.1 m))

  pub match_is : (f : Fact) (p : Pattern) → FactMatches axioms f p ↔ EntailsMatch axioms f p
  match_is f p = (
    (λ h. let r = match_into f p h in (r.0, (entails_is axioms f r.0).0 r.1, r.2)),
    λ h. match_from f p h.0 ((entails_is axioms f h.0).1 h.1) h.2,
  )
