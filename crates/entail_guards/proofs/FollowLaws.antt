-- What loops over the terms gather.
use Rattle.std.proofs.Common.{◌≡◌, ◌∙◌, Some, List, [], ◌∷◌, ◌++◌, refl, sym, ap, subst, inl, inr, ◌⊎◌, ⊎_elim, ℕ, ◌<◌, ◌+◌, length, arith}
use Rattle.std.specs.Prelude.{◌↔◌, Contains}
use Rattle.std.proofs.lemmas.Bool.{cases_lt}
use Rattle.std.proofs.lemmas.List.Elements.{Contains-append_left, Contains-append_right, Contains-append_cases}
use Rattle.std.proofs.lemmas.Option.{slice_get_within}
use Rattle.dl_base.specs.declared.axioms.Axiom.{Axiom}
use Rattle.dl_base.specs.declared.statements.Fact.{Fact}
use Rattle.dl_base.specs.declared.statements.Fact.TheVariants as fact
use Rattle.dl_base.specs.declared.names.Value.{Value}
use Rattle.dl_base.specs.declared.terms.Term.{Term}
use Rattle.dl_base.specs.Derivation.{InClosure}
use Rattle.dl_base.specs.declared.terms.Kind.{Kind}
use Rattle.dl_base.specs.declared.terms.Kind.TheVariants as kind
use Rattle.dl_base.specs.Ontologies.{Theory, Knows, IsKnown, IsTerm}
use Rattle.dl_base.specs.Picks.{Collects}
use Rattle.dl_base.proofs.KnownLaws.{closure_known}
use Rattle.dl_base.proofs.Members.{here, alone}
use Rattle.entail_guards.specs.Entailing.{Entails}
use Rattle.entail_guards.specs.Following.{term_number, FollowsAt, Gains}
use Rattle.entail_guards.proofs.Entailment.{entails_is}

pub gains_none : (Q : Fact → Type 0) (old : List Fact) → ((g : Fact) → ¬ Q g) → Gains Q old old
gains_none Q old none g = ((λ m. inl m), λ h. ⊎_elim (λ m. m) (λ q. absurd (none g q)) h)

pub gains_one : (Q : Fact → Type 0) (old : List Fact) (f : Fact) → Q f → ((g : Fact) → Q g → g ≡ f) → Gains Q old (old ++ f ∷ [])
gains_one Q old f q only g = (
  (λ m. ⊎_elim (λ k. inl k) (λ k. inr (subst Q (alone f g k) q)) (Contains-append_cases old (f ∷ []) g m)),
  λ h. ⊎_elim (λ m. Contains-append_left old (f ∷ []) g m) (λ k. Contains-append_right old (f ∷ []) g (subst (Contains (f ∷ [])) (sym (only g k)) (here f []))) h,
)

pub gains_both : (P Q : Fact → Type 0) (old mid new : List Fact) → Gains P old mid → Gains Q mid new → Gains (λ g. P g ⊎ Q g) old new
gains_both P Q old mid new h k g = (
  (λ m. ⊎_elim (λ x. ⊎_elim (λ y. inl y) (λ y. inr (inl y)) ((h g).0 x)) (λ x. inr (inr x)) ((k g).0 m)),
  λ z. ⊎_elim (λ x. (k g).1 (inl ((h g).1 (inl x)))) (λ x. ⊎_elim (λ y. (k g).1 (inl ((h g).1 (inr y)))) (λ y. (k g).1 (inr y)) x) z,
)

pub gains_as : (P Q : Fact → Type 0) (old new : List Fact) → ((g : Fact) → P g ↔ Q g) → Gains P old new → Gains Q old new
gains_as P Q old new same h g = (
  (λ m. ⊎_elim (λ x. inl x) (λ x. inr ((same g).0 x)) ((h g).0 m)),
  λ z. ⊎_elim (λ x. (h g).1 (inl x)) (λ x. (h g).1 (inr ((same g).1 x))) z,
)

pub collects_gains : (P : ℕ → Fact → Type 0) (n : ℕ) (old new : List Fact) → Collects P n old → Gains (P n) old new → Collects P (n + 1) new
collects_gains P n old new h k x = (
  (λ m. ⊎_elim (λ a. let r = (h x).0 a in (r.0, omega (arith, r.1), r.2)) (λ b. (n, omega arith, b)) ((k x).0 m)),
  λ r. ⊎_elim
      (λ l. (k x).1 (inl ((h x).1 (r.0, l, r.2))))
      (λ l. let e : r.0 ≡ n = omega (arith, r.1, l) in (k x).1 (inr (subst (λ (m : ℕ). P m x) e r.2)))
      (cases_lt r.0 n),
)

pub known_number : (theory : Theory) (g : Fact) → Knows theory g → term_number g < length theory.terms
known_number theory (fact.Class t a) k = slice_get_within theory.terms t.0 _ k.1
known_number theory (fact.Role p a b) k = slice_get_within theory.terms p.0 _ k.1
known_number theory (fact.Attr u a v) k = slice_get_within theory.terms u.0 _ k.1

module _ (axioms : List Axiom) where
  number_of : (t s : Term) → t.0 ≡ s.0 → t ≡ s
  number_of t s e = λ i. record { 0 = e i }

  class_shape : (t s : Term) (a : List ℕ) (g : Fact) → Entails axioms (fact.Class t a) g → term_number g ≡ s.0 → g ≡ fact.Class s a
  class_shape t s a (fact.Class k x) h e = let i = h.0 in let same = number_of k s e in cc
  class_shape t s a (fact.Role p x y) h e = absurd h
  class_shape t s a (fact.Attr w x y) h e = absurd h

  attr_shape : (u s : Term) (a : List ℕ) (v : Value) (g : Fact) → Entails axioms (fact.Attr u a v) g → term_number g ≡ s.0 → (g ≡ fact.Class s a) ⊎ (g ≡ fact.Attr s a v)
  attr_shape u s a v (fact.Class k x) h e = let i = h.0 in let same = number_of k s e in inl cc
  attr_shape u s a v (fact.Role p x y) h e = absurd h
  attr_shape u s a v (fact.Attr w x y) h e = let i = h.0 in let j = h.1 in let same = number_of w s e in inr cc

  role_shape : (p s : Term) (a b : List ℕ) (g : Fact) → Entails axioms (fact.Role p a b) g → term_number g ≡ s.0
      → (g ≡ fact.Class s a) ⊎ ((g ≡ fact.Class s b) ⊎ ((g ≡ fact.Role s a b) ⊎ (g ≡ fact.Role s b a)))
  role_shape p s a b (fact.Class k x) (inl h) e = let i = h.0 in let same = number_of k s e in inl cc
  role_shape p s a b (fact.Class k x) (inr h) e = let i = h.0 in let same = number_of k s e in inr (inl cc)
  role_shape p s a b (fact.Role q x y) (inl h) e = let i = h.0 in let j = h.1 in let same = number_of q s e in inr (inr (inl cc))
  role_shape p s a b (fact.Role q x y) (inr h) e = let i = h.0 in let j = h.1 in let same = number_of q s e in inr (inr (inr cc))
  role_shape p s a b (fact.Attr w x y) h e = absurd h

  by_closure : (f g : Fact) → InClosure axioms (f ∷ []) g → Entails axioms f g
  by_closure f g h = (entails_is axioms f g).1 h

  at : (s : Term) (g h : Fact) → g ≡ h → term_number h ≡ s.0 → term_number g ≡ s.0
  at s g h e n = subst (λ z. term_number z ≡ s.0) (sym e) n

  pub class_follows : (t s : Term) (a : List ℕ) (g : Fact) → ((g ≡ fact.Class s a) × InClosure axioms (fact.Class t a ∷ []) g) ↔ FollowsAt axioms (fact.Class t a) s.0 g
  class_follows t s a g = (
    (λ h. (at s g (fact.Class s a) h.0 refl, h.1)),
    λ h. (class_shape t s a g (by_closure (fact.Class t a) g h.1) h.0, h.1),
  )

  pub attr_follows : (u s : Term) (a : List ℕ) (v : Value) (g : Fact) → (((g ≡ fact.Class s a) ⊎ (g ≡ fact.Attr s a v)) × InClosure axioms (fact.Attr u a v ∷ []) g) ↔ FollowsAt axioms (fact.Attr u a v) s.0 g
  attr_follows u s a v g = (
    (λ h. (⊎_elim (λ e. at s g (fact.Class s a) e refl) (λ e. at s g (fact.Attr s a v) e refl) h.0, h.1)),
    λ h. (attr_shape u s a v g (by_closure (fact.Attr u a v) g h.1) h.0, h.1),
  )

  pub role_follows : (p s : Term) (a b : List ℕ) (g : Fact)
      → (((g ≡ fact.Class s a) ⊎ ((g ≡ fact.Class s b) ⊎ ((g ≡ fact.Role s a b) ⊎ (g ≡ fact.Role s b a)))) × InClosure axioms (fact.Role p a b ∷ []) g) ↔ FollowsAt axioms (fact.Role p a b) s.0 g
  role_follows p s a b g = (
    (λ h. (⊎_elim (λ e. at s g (fact.Class s a) e refl) (λ r. ⊎_elim (λ e. at s g (fact.Class s b) e refl) (λ z. ⊎_elim (λ e. at s g (fact.Role s a b) e refl) (λ e. at s g (fact.Role s b a) e refl) z) r) h.0, h.1)),
    λ h. (role_shape p s a b g (by_closure (fact.Role p a b) g h.1) h.0, h.1),
  )

  -- the steps at a term, where the given fact is of a kind
  pub class_gains : (f : Fact) (t s : Term) (a : List ℕ) (old new : List Fact) → f ≡ fact.Class t a
      → Gains (λ g. (g ≡ fact.Class s a) × InClosure axioms (f ∷ []) g) old new → Gains (FollowsAt axioms f s.0) old new
  class_gains f t s a old new e h = subst (λ z. Gains (FollowsAt axioms z s.0) old new) (sym e)
      (gains_as (λ g. (g ≡ fact.Class s a) × InClosure axioms (fact.Class t a ∷ []) g) (FollowsAt axioms (fact.Class t a) s.0) old new (class_follows t s a)
      (subst (λ z. Gains (λ g. (g ≡ fact.Class s a) × InClosure axioms (z ∷ []) g) old new) e h))

  pub attr_gains : (f : Fact) (u s : Term) (a : List ℕ) (v : Value) (old new : List Fact) → f ≡ fact.Attr u a v
      → Gains (λ g. ((g ≡ fact.Class s a) ⊎ (g ≡ fact.Attr s a v)) × InClosure axioms (f ∷ []) g) old new → Gains (FollowsAt axioms f s.0) old new
  attr_gains f u s a v old new e h = subst (λ z. Gains (FollowsAt axioms z s.0) old new) (sym e)
      (gains_as (λ g. ((g ≡ fact.Class s a) ⊎ (g ≡ fact.Attr s a v)) × InClosure axioms (fact.Attr u a v ∷ []) g) (FollowsAt axioms (fact.Attr u a v) s.0) old new (attr_follows u s a v)
      (subst (λ z. Gains (λ g. ((g ≡ fact.Class s a) ⊎ (g ≡ fact.Attr s a v)) × InClosure axioms (z ∷ []) g) old new) e h))

  pub role_gains : (f : Fact) (p s : Term) (a b : List ℕ) (old new : List Fact) → f ≡ fact.Role p a b
      → Gains (λ g. ((g ≡ fact.Class s a) ⊎ ((g ≡ fact.Class s b) ⊎ ((g ≡ fact.Role s a b) ⊎ (g ≡ fact.Role s b a)))) × InClosure axioms (f ∷ []) g) old new
      → Gains (FollowsAt axioms f s.0) old new
  role_gains f p s a b old new e h = subst (λ z. Gains (FollowsAt axioms z s.0) old new) (sym e)
      (gains_as (λ g. ((g ≡ fact.Class s a) ⊎ ((g ≡ fact.Class s b) ⊎ ((g ≡ fact.Role s a b) ⊎ (g ≡ fact.Role s b a)))) × InClosure axioms (fact.Role p a b ∷ []) g) (FollowsAt axioms (fact.Role p a b) s.0) old new (role_follows p s a b)
      (subst (λ z. Gains (λ g. ((g ≡ fact.Class s a) ⊎ ((g ≡ fact.Class s b) ⊎ ((g ≡ fact.Role s a b) ⊎ (g ≡ fact.Role s b a)))) × InClosure axioms (z ∷ []) g) old new) e h))

  abbrev One : Fact → Fact → Fact → Type 0
  One f h g = (g ≡ h) × InClosure axioms (f ∷ []) g

  pub two_gains : (f x y : Fact) (old mid new : List Fact) → Gains (One f x) old mid → Gains (One f y) mid new → Gains (λ g. ((g ≡ x) ⊎ (g ≡ y)) × InClosure axioms (f ∷ []) g) old new
  two_gains f x y old mid new h k = gains_as (λ g. One f x g ⊎ One f y g) (λ g. ((g ≡ x) ⊎ (g ≡ y)) × InClosure axioms (f ∷ []) g) old new
      (λ g. ((λ z. ⊎_elim (λ i. (inl i.0, i.1)) (λ i. (inr i.0, i.1)) z), λ z. ⊎_elim (λ i. inl (i, z.1)) (λ i. inr (i, z.1)) z.0))
      (gains_both (One f x) (One f y) old mid new h k)

  -- all that follow are of a term in range
  pub collected : (n : ℕ) (f : Fact) (xs : List Fact) → Collects (FollowsAt axioms f) n xs → ((g : Fact) → InClosure axioms (f ∷ []) g → term_number g < n) → (g : Fact) → Contains xs g ↔ InClosure axioms (f ∷ []) g
  collected n f xs h within g = ((λ m. ((h g).0 m).2.1), λ k. (h g).1 (term_number g, within g k, (refl, k)))

pub closure_number : (theory : Theory) (f : Fact) → IsKnown theory → Knows theory f → (g : Fact) → InClosure theory.axioms (f ∷ []) g → term_number g < length theory.terms
closure_number theory f known knows g h = known_number theory g (closure_known theory known (f ∷ []) (λ x m. subst (Knows theory) (alone f x m) knows) g h)

-- a term has one kind
not_both : (theory : Theory) (s : Term) → IsTerm theory s kind.Class → IsTerm theory s kind.Role → ⊥
not_both theory s (name, h) (other, k) =
    let x : List ℕ × Kind = (name, kind.Class) in
    let y : List ℕ × Kind = (other, kind.Role) in
    let e : Some x ≡ Some y = sym h ∙ k in
    let same : x ≡ y = cc in
    let d : kind.Class ≡ kind.Role = ap (λ (p : List ℕ × Kind). p.1) same in
    cc

module _ (theory : Theory) (f : Fact) (s : Term) (a b : List ℕ) (known : IsKnown theory) (knows : Knows theory f) where
  knows_too : (g h : Fact) → g ≡ h → InClosure theory.axioms (f ∷ []) g → Knows theory h
  knows_too g h e c = subst (Knows theory) e (closure_known theory known (f ∷ []) (λ x m. subst (Knows theory) (alone f x m) knows) g c)

  abbrev OfRole : Fact → Type 0
  OfRole g = ((g ≡ fact.Class s a) ⊎ ((g ≡ fact.Class s b) ⊎ ((g ≡ fact.Role s a b) ⊎ (g ≡ fact.Role s b a)))) × InClosure theory.axioms (f ∷ []) g

  -- of a role only role facts follow
  pub gains_roles : (old mid new : List Fact) → IsTerm theory s kind.Role → Gains (λ g. (g ≡ fact.Role s a b) × InClosure theory.axioms (f ∷ []) g) old mid
      → Gains (λ g. (g ≡ fact.Role s b a) × InClosure theory.axioms (f ∷ []) g) mid new → Gains OfRole old new
  gains_roles old mid new role h k =
      gains_as (λ g. ((g ≡ fact.Role s a b) ⊎ (g ≡ fact.Role s b a)) × InClosure theory.axioms (f ∷ []) g) OfRole old new
      (λ g. (
        (λ z. (inr (inr z.0), z.1)),
        λ z. (
          ⊎_elim
              (λ (e : g ≡ fact.Class s a). absurd (not_both theory s (knows_too g (fact.Class s a) e z.1) role))
              (λ r. ⊎_elim (λ (e : g ≡ fact.Class s b). absurd (not_both theory s (knows_too g (fact.Class s b) e z.1) role)) (λ q. q) r)
              z.0,
          z.1,
        ),
      ))
      (two_gains theory.axioms f (fact.Role s a b) (fact.Role s b a) old mid new h k)

  -- and of another term none
  pub gains_classes : (old mid new : List Fact) → ¬ IsTerm theory s kind.Role → Gains (λ g. (g ≡ fact.Class s a) × InClosure theory.axioms (f ∷ []) g) old mid
      → Gains (λ g. (g ≡ fact.Class s b) × InClosure theory.axioms (f ∷ []) g) mid new → Gains OfRole old new
  gains_classes old mid new none h k =
      gains_as (λ g. ((g ≡ fact.Class s a) ⊎ (g ≡ fact.Class s b)) × InClosure theory.axioms (f ∷ []) g) OfRole old new
      (λ g. (
        (λ z. (⊎_elim (λ e. inl e) (λ e. inr (inl e)) z.0, z.1)),
        λ z. (
          ⊎_elim
              (λ e. inl e)
              (λ r. ⊎_elim (λ e. inr e)
              (λ q. ⊎_elim (λ (e : g ≡ fact.Role s a b). absurd (none (knows_too g (fact.Role s a b) e z.1))) (λ (e : g ≡ fact.Role s b a). absurd (none (knows_too g (fact.Role s b a) e z.1))) q) r)
              z.0,
          z.1,
        ),
      ))
      (two_gains theory.axioms f (fact.Class s a) (fact.Class s b) old mid new h k)
