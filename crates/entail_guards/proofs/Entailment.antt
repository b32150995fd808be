-- One fact entails another exactly where reachability tells it.
use Rattle.std.proofs.Common.{◌≡◌, Bool, IsTrue, List, [], ◌∷◌, sym, subst, inl, inr, ◌⊎◌, ⊎_elim, ℕ}
use Rattle.std.specs.Prelude.{◌↔◌, Contains}
use Rattle.dl_base.specs.declared.axioms.Axiom.{Axiom}
use Rattle.dl_base.specs.declared.statements.Fact.{Fact}
use Rattle.dl_base.specs.declared.statements.Fact.TheVariants as fact
use Rattle.dl_base.specs.declared.terms.Term.{Term}
use Rattle.dl_base.specs.declared.terms.RoleSide.{RoleSide}
use Rattle.dl_base.specs.declared.terms.RoleSide.TheVariants.{Direct, Inverse}
use Rattle.dl_base.specs.declared.terms.Basic.TheVariants as basic
use Rattle.dl_base.specs.Derivation.{InClosure, row_of}
use Rattle.dl_base.specs.Clash.{RoleReaches, AttrReaches}
use Rattle.dl_base.proofs.Members.{here, there, alone, cons_cases}
use Rattle.dl_laws.specs.Rows.{Start, OfConcept, OfRole, OfAttr, starts}
use Rattle.dl_laws.proofs.Saying.{Says}
use Rattle.dl_laws.proofs.ClashTelling.{entailed_is}
use Rattle.entail_guards.specs.Entailing.{Entails}

module _ (axioms : List Axiom) where
  abbrev ByStart : Fact → Fact → Type 0
  ByStart f g = (s : Start) × Contains (starts f) s × Says axioms s (row_of g)

  one : (s t : Start) (g : Fact) → Contains (s ∷ []) t → Says axioms t (row_of g) → Says axioms s (row_of g)
  one s t g m h = subst (λ z. Says axioms z (row_of g)) (sym (alone s t m)) h

  of_two : (s t x : Start) (g : Fact) → Contains (s ∷ t ∷ []) x → Says axioms x (row_of g) → Says axioms s (row_of g) ⊎ Says axioms t (row_of g)
  of_two s t x g m h = ⊎_elim (λ e. inl (subst (λ z. Says axioms z (row_of g)) (sym e) h)) (λ n. inr (one t x g n h)) (cons_cases s (t ∷ []) x m)

  role_says : (a b x y : List ℕ) (q : RoleSide) (p : Term) → Says axioms (OfRole a b q) (row_of (fact.Role p x y)) ↔ ((x ≡ a) × (y ≡ b) × RoleReaches axioms q (Direct p))
  role_says a b x y q p = (
    (λ h. let i = h.1 in (cc, cc, (let same : h.0 ≡ q = cc in subst (λ (z : RoleSide). RoleReaches axioms z (Direct p)) same h.2))),
    λ h. let i = h.0 in let j = h.1 in (q, cc, h.2),
  )

  into : (f g : Fact) → ByStart f g → Entails axioms f g
  into (fact.Class t a) (fact.Class k x) (s, m, h) = one (OfConcept a (basic.Class t)) s (fact.Class k x) m h
  into (fact.Class t a) (fact.Role p x y) (s, m, h) = let r = one (OfConcept a (basic.Class t)) s (fact.Role p x y) m h in let i = r.1 in cc
  into (fact.Class t a) (fact.Attr w x y) (s, m, h) = let r = one (OfConcept a (basic.Class t)) s (fact.Attr w x y) m h in let i = r.1 in cc
  into (fact.Role p a b) (fact.Class k x) (s, m, h) = of_two (OfRole a b (Direct p)) (OfRole b a (Inverse p)) s (fact.Class k x) m h
  into (fact.Role p a b) (fact.Role q x y) (s, m, h) = ⊎_elim
      (λ r. inl ((role_says a b x y (Direct p) q).0 r))
      (λ r. inr ((role_says b a x y (Inverse p) q).0 r))
      (of_two (OfRole a b (Direct p)) (OfRole b a (Inverse p)) s (fact.Role q x y) m h)
  into (fact.Role p a b) (fact.Attr w x y) (s, m, h) = ⊎_elim
      (λ r. let i = r.1 in cc)
      (λ r. let i = r.1 in cc)
      (of_two (OfRole a b (Direct p)) (OfRole b a (Inverse p)) s (fact.Attr w x y) m h)
  into (fact.Attr u a v) (fact.Class k x) (s, m, h) = one (OfAttr a v u) s (fact.Class k x) m h
  into (fact.Attr u a v) (fact.Role p x y) (s, m, h) = let r = one (OfAttr a v u) s (fact.Role p x y) m h in let i = r.1 in cc
  into (fact.Attr u a v) (fact.Attr w x y) (s, m, h) = let r = one (OfAttr a v u) s (fact.Attr w x y) m h in let i = r.1 in
      (cc, cc, (let same : r.0 ≡ u = cc in subst (λ (z : Term). AttrReaches axioms z w) same r.2))

  first : (a b : List ℕ) (p : Term) → Contains (starts (fact.Role p a b)) (OfRole a b (Direct p))
  first a b p = here (OfRole a b (Direct p)) (OfRole b a (Inverse p) ∷ [])

  second : (a b : List ℕ) (p : Term) → Contains (starts (fact.Role p a b)) (OfRole b a (Inverse p))
  second a b p = there (OfRole a b (Direct p)) (OfRole b a (Inverse p) ∷ []) (OfRole b a (Inverse p)) (here (OfRole b a (Inverse p)) [])

  from : (f g : Fact) → Entails axioms f g → ByStart f g
  from (fact.Class t a) (fact.Class k x) h = (OfConcept a (basic.Class t), here (OfConcept a (basic.Class t)) [], h)
  from (fact.Class t a) (fact.Role p x y) h = absurd h
  from (fact.Class t a) (fact.Attr w x y) h = absurd h
  from (fact.Role p a b) (fact.Class k x) (inl h) = (OfRole a b (Direct p), first a b p, h)
  from (fact.Role p a b) (fact.Class k x) (inr h) = (OfRole b a (Inverse p), second a b p, h)
  from (fact.Role p a b) (fact.Role q x y) (inl h) = (OfRole a b (Direct p), first a b p, (role_says a b x y (Direct p) q).1 h)
  from (fact.Role p a b) (fact.Role q x y) (inr h) = (OfRole b a (Inverse p), second a b p, (role_says b a x y (Inverse p) q).1 h)
  from (fact.Role p a b) (fact.Attr w x y) h = absurd h
  from (fact.Attr u a v) (fact.Class k x) h = (OfAttr a v u, here (OfAttr a v u) [], h)
  from (fact.Attr u a v) (fact.Role p x y) h = absurd h
  from (fact.Attr u a v) (fact.Attr w x y) h = let i = h.0 in let j = h.1 in (OfAttr a v u, here (OfAttr a v u) [], (u, cc, h.2))

  pub entails_is : (f g : Fact) → Entails axioms f g ↔ InClosure axioms (f ∷ []) g
  entails_is f g = ((λ h. (entailed_is axioms f g).0 (from f g h)), λ h. into f g ((entailed_is axioms f g).1 h))

  pub told_entailed : (f : Fact) (r : Bool) (g h : Fact) → g ≡ h → IsTrue r ↔ Entails axioms f h → IsTrue r ↔ InClosure axioms (f ∷ []) g
  told_entailed f r g h e t = subst (λ z. IsTrue r ↔ InClosure axioms (f ∷ []) z) (sym e) ((λ y. (entails_is f h).0 (t.0 y)), λ y. t.1 ((entails_is f h).1 y))
