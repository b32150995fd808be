-- The guards of an attribute fact.
use Rattle.std.proofs.Common.{◌≡◌, ℕ, length, List, [], ◌∷◌, refl, sym, ap, subst, inl, inr, arith}
use Rattle.std.specs.Prelude.{Contains, ◌↔◌}
use Rattle.dl_base.specs.declared.axioms.Axiom.{Axiom}
use Rattle.dl_base.specs.declared.names.Value.{Value}
use Rattle.dl_base.specs.declared.terms.Term.{Term}
use Rattle.dl_base.specs.declared.patterns.Pattern.{Pattern}
use Rattle.dl_base.specs.declared.patterns.Pattern.TheVariants as asked
use Rattle.dl_base.specs.declared.statements.Fact.{Fact}
use Rattle.dl_base.specs.declared.statements.Fact.TheVariants as fact
use Rattle.dl_base.specs.Ontologies.{Theory, Knows}
use Rattle.dl_base.specs.Patterns.{Matches}
use Rattle.dl_base.specs.Clash.{HasClash}
use Rattle.dl_base.proofs.Members.{here, alone}
use Rattle.dl_laws.specs.Rows.{Start, OfAttr}
use Rattle.dl_laws.specs.Meeting.{AreDisjointAttrs, ShareFunctionalAttr}
use Rattle.conflict_rules.specs.Guards.{IsGuard}
use Rattle.conflict_rules.specs.Counts.{pattern_term, AreGuardsBelow}
use Rattle.conflict_rules.specs.AttrGuards.{IsAttrGuardAt}
use Rattle.conflict_rules.proofs.Guarding.{guards_exact}
use Rattle.conflict_rules.proofs.Adding.{same_term, in_range}

module _ (axioms : List Axiom) (u : Term) (a : List ℕ) (v : Value) where
  attr_guard : (t : Term) (x : Pattern) → IsAttrGuardAt axioms u a v t x → IsGuard axioms (OfAttr a v u) x
  attr_guard t x (inl (e, h)) = subst (IsGuard axioms (OfAttr a v u)) (sym e) (refl, h)
  attr_guard t x (inr (inl (e, h))) = subst (IsGuard axioms (OfAttr a v u)) (sym e) (refl, h)
  attr_guard t x (inr (inr (inl (e, h)))) = subst (IsGuard axioms (OfAttr a v u)) (sym e) (refl, h)
  attr_guard t x (inr (inr (inr (inl (e, h))))) = subst (IsGuard axioms (OfAttr a v u)) (sym e) (refl, h)
  attr_guard t x (inr (inr (inr (inr (inl (e, h)))))) = subst (IsGuard axioms (OfAttr a v u)) (sym e) (u, refl, h)
  attr_guard t x (inr (inr (inr (inr (inr (e, h)))))) = subst (IsGuard axioms (OfAttr a v u)) (sym e) (u, refl, h)

  attr_at : (x : Pattern) → IsGuard axioms (OfAttr a v u) x → (t : Term) × (pattern_term x ≡ t.0) × IsAttrGuardAt axioms u a v t x
  attr_at (asked.Class n) h = absurd h
  attr_at (asked.ClassOf n y) (i, h) = (n, refl, inl (ap (asked.ClassOf n) i, h))
  attr_at (asked.Role n) h = absurd h
  attr_at (asked.RoleFrom n y) (i, h) = (n, refl, inr (inl (ap (asked.RoleFrom n) i, h)))
  attr_at (asked.RoleTo n y) (i, h) = (n, refl, inr (inr (inl (ap (asked.RoleTo n) i, h))))
  attr_at (asked.RoleBoth n y z) (q, inl (e, h)) = cc
  attr_at (asked.RoleBoth n y z) (q, inr (e, h)) = cc
  attr_at (asked.RoleFromExcept n y z) (q, e, h) = cc
  attr_at (asked.RoleToExcept n y z) (q, e, h) = cc
  attr_at (asked.Attr n) h = absurd h
  attr_at (asked.AttrOf n y) (i, h) = (n, refl, inr (inr (inr (inl (ap (asked.AttrOf n) i, h)))))
  attr_at (asked.AttrValue n z) h = absurd h
  attr_at (asked.AttrBoth n y z) (w, e, h) =
      let same : asked.AttrBoth n y z ≡ asked.AttrBoth n a v = cc in
      let side : w ≡ u = cc in
      (n, refl, inr (inr (inr (inr (inl (same, subst (λ (o : Term). AreDisjointAttrs axioms o n) side h))))))
  attr_at (asked.AttrOfExcept n y z) (w, e, h) =
      let same : asked.AttrOfExcept n y z ≡ asked.AttrOfExcept n a v = cc in
      let side : w ≡ u = cc in
      (n, refl, inr (inr (inr (inr (inr (same, subst (λ (o : Term). ShareFunctionalAttr axioms o n) side h))))))

pub attr_guards : (theory : Theory) (u : Term) (a : List ℕ) (v : Value) (guards : List Pattern) → AreGuardsBelow (IsAttrGuardAt theory.axioms u a v) 6 (length theory.terms) guards
    → ¬ HasClash theory.axioms (fact.Attr u a v ∷ []) → (g : Fact) → Knows theory g → ¬ HasClash theory.axioms (g ∷ [])
    → ((x : Pattern) × Contains guards x × Matches x g) ↔ HasClash theory.axioms (fact.Attr u a v ∷ g ∷ [])
attr_guards theory u a v guards h one g knows two =
    let law = guards_exact theory.axioms (fact.Attr u a v) g one two in
    let s : Start = OfAttr a v u in (
      (λ (x, m, j). let t = (h.each x).0 m in law.0 (x, (s, here s [], attr_guard theory.axioms u a v t.0 x t.2), j)),
      (λ c.
          let q = law.1 c in
          let t = attr_at theory.axioms u a v q.0 (subst (λ (z : Start). IsGuard theory.axioms z q.0) (sym (alone s q.1.0 q.1.1)) q.1.2) in
          let same = same_term q.0 g q.2 in
          let within = in_range theory g knows in
          (q.0, (h.each q.0).1 (t.0, omega (arith, t.1, same, within), t.2), q.2)),
    )
