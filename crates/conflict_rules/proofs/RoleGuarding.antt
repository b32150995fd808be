-- The guards of a role fact.
use Rattle.std.proofs.Common.{◌≡◌, ◌≢◌, ℕ, ◌≤◌, length, List, [], ◌∷◌, refl, sym, ◌∙◌, ap, subst, inl, inr, ⊎_elim, arith}
use Rattle.std.specs.Prelude.{Contains, ◌↔◌, Some}
use Rattle.dl_base.specs.declared.axioms.Axiom.{Axiom}
use Rattle.dl_base.specs.declared.terms.Kind.{Kind}
use Rattle.dl_base.specs.declared.terms.Kind.TheVariants as kind
use Rattle.dl_base.specs.declared.terms.Term.{Term}
use Rattle.dl_base.specs.declared.terms.RoleSide.TheVariants.{Direct, Inverse}
use Rattle.dl_base.specs.declared.patterns.Pattern.{Pattern}
use Rattle.dl_base.specs.declared.patterns.Pattern.TheVariants as asked
use Rattle.dl_base.specs.declared.statements.Fact.{Fact}
use Rattle.dl_base.specs.declared.statements.Fact.TheVariants as fact
use Rattle.dl_base.specs.Ontologies.{Theory, IsTerm, Knows}
use Rattle.dl_base.specs.Validity.{IsValid}
use Rattle.dl_base.specs.Patterns.{Matches}
use Rattle.dl_base.specs.Clash.{HasClash}
use Rattle.dl_base.proofs.Members.{here, there, alone, cons_cases}
use Rattle.dl_laws.specs.Rows.{Start, OfRole}
use Rattle.dl_laws.specs.Meeting.{AreDisjointRoles, ShareFunctionalRole}
use Rattle.conflict_rules.specs.Guards.{IsGuard, IsGuardOf}
use Rattle.conflict_rules.specs.Counts.{pattern_term, one_if, AreAdded, AreGuardsBelow}
use Rattle.conflict_rules.specs.RoleGuards.{IsRoleGuardAt, IsOtherGuardAt, IsKindGuardAt}
use Rattle.conflict_rules.proofs.Bound.{roles_bound_same}
use Rattle.conflict_rules.proofs.Guarding.{guards_exact}
use Rattle.conflict_rules.proofs.Adding.{one_tells, same_term, in_range}

module _ (theory : Theory) (p : Term) (a b : List ℕ) where
  abbrev axioms : List Axiom
  axioms = theory.axioms

  abbrev f : Fact
  f = fact.Role p a b

  at_one : (x q : Pattern) → x ≡ q → IsGuard axioms (OfRole a b (Direct p)) q → IsGuardOf axioms f x
  at_one x q e h = (OfRole a b (Direct p), here (OfRole a b (Direct p)) (OfRole b a (Inverse p) ∷ []), subst (IsGuard axioms (OfRole a b (Direct p))) (sym e) h)

  at_other : (x q : Pattern) → x ≡ q → IsGuard axioms (OfRole b a (Inverse p)) q → IsGuardOf axioms f x
  at_other x q e h = (OfRole b a (Inverse p), there (OfRole a b (Direct p)) (OfRole b a (Inverse p) ∷ []) (OfRole b a (Inverse p)) (here (OfRole b a (Inverse p)) []), subst (IsGuard axioms (OfRole b a (Inverse p))) (sym e) h)

  role_guard : (t : Term) (x : Pattern) → IsRoleGuardAt axioms p a b t x → IsGuardOf axioms f x
  role_guard t x (inl (e, h)) = at_one x (asked.RoleFrom t a) e (refl, h)
  role_guard t x (inr (inl (e, h))) = at_one x (asked.RoleTo t a) e (refl, h)
  role_guard t x (inr (inr (inl (e, h)))) = at_other x (asked.RoleFrom t b) e (refl, h)
  role_guard t x (inr (inr (inr (inl (e, h))))) = at_other x (asked.RoleTo t b) e (refl, h)
  role_guard t x (inr (inr (inr (inr (inl (e, inl h)))))) = at_one x (asked.RoleBoth t a b) e (Direct p, inl (refl, h))
  role_guard t x (inr (inr (inr (inr (inl (e, inr h)))))) = at_other x (asked.RoleBoth t a b) e (Inverse p, inr (refl, h))
  role_guard t x (inr (inr (inr (inr (inr (inl (e, inl h))))))) = at_one x (asked.RoleBoth t b a) e (Direct p, inr (refl, h))
  role_guard t x (inr (inr (inr (inr (inr (inl (e, inr h))))))) = at_other x (asked.RoleBoth t b a) e (Inverse p, inl (refl, h))
  role_guard t x (inr (inr (inr (inr (inr (inr (inl (e, h)))))))) = at_one x (asked.RoleFromExcept t a b) e (Direct p, refl, h)
  role_guard t x (inr (inr (inr (inr (inr (inr (inr (e, h)))))))) = at_other x (asked.RoleToExcept t b a) e (Inverse p, refl, h)

  other_guard : (t : Term) (x : Pattern) → IsOtherGuardAt axioms p a b t x → IsGuardOf axioms f x
  other_guard t x (inl (e, h)) = at_one x (asked.ClassOf t a) e (refl, h)
  other_guard t x (inr (inl (e, h))) = at_one x (asked.AttrOf t a) e (refl, h)
  other_guard t x (inr (inr (inl (e, h)))) = at_other x (asked.ClassOf t b) e (refl, h)
  other_guard t x (inr (inr (inr (e, h)))) = at_other x (asked.AttrOf t b) e (refl, h)

  -- a term has one kind
  not_role : (t : Term) (k : Kind) → IsTerm theory t k → k ≢ kind.Role → ¬ IsTerm theory t kind.Role
  not_role t k (name, h) ne (other, i) = ne (kind_same (some_same (name, k) (other, kind.Role) (sym h ∙ i)))
    where
      some_same : (v w : List ℕ × Kind) → Some v ≡ Some w → v ≡ w
      some_same v w e = cc

      kind_same : {v w : List ℕ × Kind} → v ≡ w → v.1 ≡ w.1
      kind_same e = ap (λ (z : List ℕ × Kind). z.1) e

  module _ (valid : IsValid axioms) where
    first_at : (x : Pattern) (g : Fact) → Knows theory g → IsGuard axioms (OfRole a b (Direct p)) x → Matches x g → (t : Term) × (pattern_term x ≡ t.0) × IsKindGuardAt theory p a b t x
    first_at (asked.Class n) g k h m = absurd h
    first_at (asked.ClassOf n y) (fact.Class o c) k (i, h) m = (n, refl, inr (not_role n kind.Class (subst (λ (z : Term). IsTerm theory z kind.Class) (sym m.0) k) (λ e. cc), inl (ap (asked.ClassOf n) i, h)))
    first_at (asked.ClassOf n y) (fact.Role o c d) k h m = absurd m
    first_at (asked.ClassOf n y) (fact.Attr o c z) k h m = absurd m
    first_at (asked.Role n) g k h m = absurd h
    first_at (asked.RoleFrom n y) (fact.Class o c) k h m = absurd m
    first_at (asked.RoleFrom n y) (fact.Role o c d) k (i, h) m = (n, refl, inl (subst (λ (z : Term). IsTerm theory z kind.Role) (sym m.0) k, inl (ap (asked.RoleFrom n) i, h)))
    first_at (asked.RoleFrom n y) (fact.Attr o c z) k h m = absurd m
    first_at (asked.RoleTo n y) (fact.Class o c) k h m = absurd m
    first_at (asked.RoleTo n y) (fact.Role o c d) k (i, h) m = (n, refl, inl (subst (λ (z : Term). IsTerm theory z kind.Role) (sym m.0) k, inr (inl (ap (asked.RoleTo n) i, h))))
    first_at (asked.RoleTo n y) (fact.Attr o c z) k h m = absurd m
    first_at (asked.RoleBoth n y z) (fact.Class o c) k h m = absurd m
    first_at (asked.RoleBoth n y z) (fact.Role o c d) k (q, inl (e, h)) m =
        let same : asked.RoleBoth n y z ≡ asked.RoleBoth n a b = cc in
        let side : q ≡ Direct p = cc in
        (n, refl, inl (subst (λ (w : Term). IsTerm theory w kind.Role) (sym m.0) k, inr (inr (inr (inr (inl (same, inl (subst (λ w. AreDisjointRoles axioms w (Direct n)) side h))))))))
    first_at (asked.RoleBoth n y z) (fact.Role o c d) k (q, inr (e, h)) m =
        let same : asked.RoleBoth n y z ≡ asked.RoleBoth n b a = cc in
        let side : q ≡ Direct p = cc in
        (n, refl, inl (subst (λ (w : Term). IsTerm theory w kind.Role) (sym m.0) k, inr (inr (inr (inr (inr (inl (same, inl (subst (λ w. AreDisjointRoles axioms w (Inverse n)) side h)))))))))
    first_at (asked.RoleBoth n y z) (fact.Attr o c v) k h m = absurd m
    first_at (asked.RoleFromExcept n y z) (fact.Class o c) k h m = absurd m
    first_at (asked.RoleFromExcept n y z) (fact.Role o c d) k (q, e, h) m =
        let same : asked.RoleFromExcept n y z ≡ asked.RoleFromExcept n a b = cc in
        let side : q ≡ Direct p = cc in
        (n, refl, inl (subst (λ (w : Term). IsTerm theory w kind.Role) (sym m.0) k, inr (inr (inr (inr (inr (inr (inl (same, subst (λ w. ShareFunctionalRole axioms w (Direct n)) side h)))))))))
    first_at (asked.RoleFromExcept n y z) (fact.Attr o c v) k h m = absurd m
    first_at (asked.RoleToExcept n y z) (fact.Class o c) k h m = absurd m
    first_at (asked.RoleToExcept n y z) (fact.Role o c d) k (q, e, h) m =
        let side : q ≡ Direct p = cc in
        let turn : q ≡ Inverse n = roles_bound_same axioms valid q (Inverse n) h in
        cc
    first_at (asked.RoleToExcept n y z) (fact.Attr o c v) k h m = absurd m
    first_at (asked.Attr n) g k h m = absurd h
    first_at (asked.AttrOf n y) (fact.Class o c) k h m = absurd m
    first_at (asked.AttrOf n y) (fact.Role o c d) k h m = absurd m
    first_at (asked.AttrOf n y) (fact.Attr o c z) k (i, h) m = (n, refl, inr (not_role n kind.Attr (subst (λ (w : Term). IsTerm theory w kind.Attr) (sym m.0) k) (λ e. cc), inr (inl (ap (asked.AttrOf n) i, h))))
    first_at (asked.AttrValue n v) g k h m = absurd h
    first_at (asked.AttrBoth n y v) g k (u, e, h) m = cc
    first_at (asked.AttrOfExcept n y v) g k (u, e, h) m = cc

    other_at : (x : Pattern) (g : Fact) → Knows theory g → IsGuard axioms (OfRole b a (Inverse p)) x → Matches x g → (t : Term) × (pattern_term x ≡ t.0) × IsKindGuardAt theory p a b t x
    other_at (asked.Class n) g k h m = absurd h
    other_at (asked.ClassOf n y) (fact.Class o c) k (i, h) m = (n, refl, inr (not_role n kind.Class (subst (λ (z : Term). IsTerm theory z kind.Class) (sym m.0) k) (λ e. cc), inr (inr (inl (ap (asked.ClassOf n) i, h)))))
    other_at (asked.ClassOf n y) (fact.Role o c d) k h m = absurd m
    other_at (asked.ClassOf n y) (fact.Attr o c z) k h m = absurd m
    other_at (asked.Role n) g k h m = absurd h
    other_at (asked.RoleFrom n y) (fact.Class o c) k h m = absurd m
    other_at (asked.RoleFrom n y) (fact.Role o c d) k (i, h) m = (n, refl, inl (subst (λ (z : Term). IsTerm theory z kind.Role) (sym m.0) k, inr (inr (inl (ap (asked.RoleFrom n) i, h)))))
    other_at (asked.RoleFrom n y) (fact.Attr o c z) k h m = absurd m
    other_at (asked.RoleTo n y) (fact.Class o c) k h m = absurd m
    other_at (asked.RoleTo n y) (fact.Role o c d) k (i, h) m = (n, refl, inl (subst (λ (z : Term). IsTerm theory z kind.Role) (sym m.0) k, inr (inr (inr (inl (ap (asked.RoleTo n) i, h))))))
    other_at (asked.RoleTo n y) (fact.Attr o c z) k h m = absurd m
    other_at (asked.RoleBoth n y z) (fact.Class o c) k h m = absurd m
    other_at (asked.RoleBoth n y z) (fact.Role o c d) k (q, inl (e, h)) m =
        let same : asked.RoleBoth n y z ≡ asked.RoleBoth n b a = cc in
        let side : q ≡ Inverse p = cc in
        (n, refl, inl (subst (λ (w : Term). IsTerm theory w kind.Role) (sym m.0) k, inr (inr (inr (inr (inr (inl (same, inr (subst (λ w. AreDisjointRoles axioms w (Direct n)) side h)))))))))
    other_at (asked.RoleBoth n y z) (fact.Role o c d) k (q, inr (e, h)) m =
        let same : asked.RoleBoth n y z ≡ asked.RoleBoth n a b = cc in
        let side : q ≡ Inverse p = cc in
        (n, refl, inl (subst (λ (w : Term). IsTerm theory w kind.Role) (sym m.0) k, inr (inr (inr (inr (inl (same, inr (subst (λ w. AreDisjointRoles axioms w (Inverse n)) side h))))))))
    other_at (asked.RoleBoth n y z) (fact.Attr o c v) k h m = absurd m
    other_at (asked.RoleFromExcept n y z) (fact.Class o c) k h m = absurd m
    other_at (asked.RoleFromExcept n y z) (fact.Role o c d) k (q, e, h) m =
        let side : q ≡ Inverse p = cc in
        let turn : q ≡ Direct n = roles_bound_same axioms valid q (Direct n) h in
        cc
    other_at (asked.RoleFromExcept n y z) (fact.Attr o c v) k h m = absurd m
    other_at (asked.RoleToExcept n y z) (fact.Class o c) k h m = absurd m
    other_at (asked.RoleToExcept n y z) (fact.Role o c d) k (q, e, h) m =
        let same : asked.RoleToExcept n y z ≡ asked.RoleToExcept n b a = cc in
        let side : q ≡ Inverse p = cc in
        (n, refl, inl (subst (λ (w : Term). IsTerm theory w kind.Role) (sym m.0) k, inr (inr (inr (inr (inr (inr (inr (same, subst (λ w. ShareFunctionalRole axioms w (Inverse n)) side h)))))))))
    other_at (asked.RoleToExcept n y z) (fact.Attr o c v) k h m = absurd m
    other_at (asked.Attr n) g k h m = absurd h
    other_at (asked.AttrOf n y) (fact.Class o c) k h m = absurd m
    other_at (asked.AttrOf n y) (fact.Role o c d) k h m = absurd m
    other_at (asked.AttrOf n y) (fact.Attr o c z) k (i, h) m = (n, refl, inr (not_role n kind.Attr (subst (λ (w : Term). IsTerm theory w kind.Attr) (sym m.0) k) (λ e. cc), inr (inr (inr (ap (asked.AttrOf n) i, h)))))
    other_at (asked.AttrValue n v) g k h m = absurd h
    other_at (asked.AttrBoth n y v) g k (u, e, h) m = cc
    other_at (asked.AttrOfExcept n y v) g k (u, e, h) m = cc

    pub role_guards : (guards : List Pattern) → AreGuardsBelow (IsKindGuardAt theory p a b) 8 (length theory.terms) guards
        → ¬ HasClash axioms (f ∷ []) → (g : Fact) → Knows theory g → ¬ HasClash axioms (g ∷ [])
        → ((x : Pattern) × Contains guards x × Matches x g) ↔ HasClash axioms (f ∷ g ∷ [])
    role_guards guards h one g knows two =
        let law = guards_exact axioms f g one two in
        let into : (x : Pattern) → Matches x g → ((t : Term) × (pattern_term x ≡ t.0) × IsKindGuardAt theory p a b t x) → (x : Pattern) × Contains guards x × Matches x g =
        λ x m t. let same = same_term x g m in let within = in_range theory g knows in (x, (h.each x).1 (t.0, omega (arith, t.1, same, within), t.2), m) in (
          (λ (x, m, j). let t = (h.each x).0 m in law.0 (x, ⊎_elim (λ y. role_guard t.0 x y.1) (λ y. other_guard t.0 x y.1) t.2, j)),
          (λ c.
              let q = law.1 c in
              into q.0 q.2 (⊎_elim
              (λ is. first_at q.0 g knows (subst (λ (z : Start). IsGuard axioms z q.0) (sym is) q.1.2) q.2)
              (λ last. other_at q.0 g knows (subst (λ (z : Start). IsGuard axioms z q.0) (sym (alone (OfRole b a (Inverse p)) q.1.0 last)) q.1.2) q.2)
              (cons_cases (OfRole a b (Direct p)) (OfRole b a (Inverse p) ∷ []) q.1.0 q.1.1))),
        )

pub added_as : (Q R : Pattern → Type 0) (m j k : ℕ) (old new : List Pattern) → ((x : Pattern) → Q x ↔ R x) → j ≤ k → AreAdded Q m j old new → AreAdded R m k old new
added_as Q R m j k old new same less h = record {
  each = λ x. (
    (λ c. ⊎_elim (λ y. inl y) (λ y. inr ((same x).0 y)) ((h.each x).0 c)),
    (λ s. (h.each x).1 (⊎_elim (λ y. inl y) (λ y. inr ((same x).1 y)) s)),
  );
  few = λ n. let x = h.few n in ⊎_elim
      (λ (t : (one_if m n ≡ 1) × (m ≡ n)). let e : one_if m n ≡ 1 = t.0 in let z = rw e at x in rw e (omega (arith, z, less)))
      (λ (t : (one_if m n ≡ 0) × (m ≢ n)). let e : one_if m n ≡ 0 = t.0 in let z = rw e at x in rw e (omega (arith, z)))
      (one_tells m n);
  size = omega (arith, h.size, less);
}

module _ (theory : Theory) (p : Term) (a b : List ℕ) where
  pub of_role : (t : Term) (old new : List Pattern) → IsTerm theory t kind.Role → AreAdded (IsRoleGuardAt theory.axioms p a b t) t.0 8 old new → AreAdded (IsKindGuardAt theory p a b t) t.0 8 old new
  of_role t old new is h = added_as (IsRoleGuardAt theory.axioms p a b t) (IsKindGuardAt theory p a b t) t.0 8 8 old new
      (λ x. ((λ q. inl (is, q)), (λ s. ⊎_elim (λ y. y.1) (λ y. absurd (y.0 is)) s))) (omega arith) h

  pub of_other : (t : Term) (old new : List Pattern) → ¬ IsTerm theory t kind.Role → AreAdded (IsOtherGuardAt theory.axioms p a b t) t.0 4 old new → AreAdded (IsKindGuardAt theory p a b t) t.0 8 old new
  of_other t old new none h = added_as (IsOtherGuardAt theory.axioms p a b t) (IsKindGuardAt theory p a b t) t.0 4 8 old new
      (λ x. ((λ q. inr (none, q)), (λ s. ⊎_elim (λ y. absurd (none y.0)) (λ y. y.1) s))) (omega arith) h
