-- Terms that have no guard of a fact.
use Rattle.std.proofs.Common.{◌≢◌, ◌≤◌, ◌<◌, ℕ, List, ap, inl, inr}
use Rattle.dl_base.specs.declared.axioms.Axiom.{Axiom}
use Rattle.dl_base.specs.declared.names.Value.{Value}
use Rattle.dl_base.specs.declared.terms.Term.{Term}
use Rattle.dl_base.specs.declared.terms.RoleSide.{RoleSide}
use Rattle.dl_base.specs.declared.terms.RoleSide.TheVariants.{Direct, Inverse}
use Rattle.dl_base.specs.declared.terms.Basic.{Basic}
use Rattle.dl_base.specs.declared.terms.Basic.TheVariants as basic
use Rattle.dl_base.specs.Ontologies.{Theory}
use Rattle.dl_base.specs.Validity.{IsValid}
use Rattle.dl_laws.specs.Meeting.{AreDisjointConcepts, AreDisjointRoles, AreDisjointAttrs}
use Rattle.tbox_closure.specs.Tables.{role_term, term_number}
use Rattle.conflict_rules.specs.AttrGuards.{IsAttrGuardAt}
use Rattle.conflict_rules.specs.Counts.{HasNoGuard, IsGuardAt}
use Rattle.conflict_rules.specs.RoleGuards.{IsKindGuardAt, IsRoleGuardAt, IsOtherGuardAt}
use Rattle.conflict_rules.proofs.Bound.{roles_bound_same, attrs_bound_same}

abbrev term_of : RoleSide → Term
term_of (Direct t) = t
term_of (Inverse t) = t

module _ (axioms : List Axiom) (from to : ℕ) where
  pub concept_passed : (a : List ℕ) (c : Basic) → ((b : Basic) → from ≤ term_number b → term_number b < to → ¬ AreDisjointConcepts axioms c b) → HasNoGuard (IsGuardAt axioms a c) from to
  concept_passed a c none t low high p (inl (e, h)) = none (basic.Class t) low high h
  concept_passed a c none t low high p (inr (inl (e, h))) = none (basic.Exists (Direct t)) low high h
  concept_passed a c none t low high p (inr (inr (inl (e, h)))) = none (basic.Exists (Inverse t)) low high h
  concept_passed a c none t low high p (inr (inr (inr (e, h)))) = none (basic.Domain t) low high h

  pub attr_passed : IsValid axioms → (u : Term) (a : List ℕ) (v : Value) → HasNoGuard (IsGuardAt axioms a (basic.Domain u)) from to
      → ((w : Term) → from ≤ w.0 → w.0 < to → ¬ AreDisjointAttrs axioms u w) → ((t : Term) → from ≤ t.0 → t.0 < to → u ≢ t)
      → HasNoGuard (IsAttrGuardAt axioms u a v) from to
  attr_passed valid u a v subjects attrs own t low high p (inl (e, h)) = subjects t low high p (inl (e, h))
  attr_passed valid u a v subjects attrs own t low high p (inr (inl (e, h))) = subjects t low high p (inr (inl (e, h)))
  attr_passed valid u a v subjects attrs own t low high p (inr (inr (inl (e, h)))) = subjects t low high p (inr (inr (inl (e, h))))
  attr_passed valid u a v subjects attrs own t low high p (inr (inr (inr (inl (e, h))))) = subjects t low high p (inr (inr (inr (e, h))))
  attr_passed valid u a v subjects attrs own t low high p (inr (inr (inr (inr (inl (e, h)))))) = attrs t low high h
  attr_passed valid u a v subjects attrs own t low high p (inr (inr (inr (inr (inr (e, h)))))) = own t low high (attrs_bound_same axioms valid u t h)

module _ (theory : Theory) (valid : IsValid theory.axioms) (from to : ℕ) (r : Term) (a b : List ℕ)
    (starts : HasNoGuard (IsGuardAt theory.axioms a (basic.Exists (Direct r))) from to) (ends : HasNoGuard (IsGuardAt theory.axioms b (basic.Exists (Inverse r))) from to)
    (forward : (q : RoleSide) → from ≤ role_term q → role_term q < to → ¬ AreDisjointRoles theory.axioms (Direct r) q)
    (backward : (q : RoleSide) → from ≤ role_term q → role_term q < to → ¬ AreDisjointRoles theory.axioms (Inverse r) q)
    (own : (t : Term) → from ≤ t.0 → t.0 < to → r ≢ t) where
  role_free : (t : Term) → from ≤ t.0 → t.0 < to → (p : _) → ¬ IsRoleGuardAt theory.axioms r a b t p
  role_free t low high p (inl (e, h)) = starts t low high p (inr (inl (e, h)))
  role_free t low high p (inr (inl (e, h))) = starts t low high p (inr (inr (inl (e, h))))
  role_free t low high p (inr (inr (inl (e, h)))) = ends t low high p (inr (inl (e, h)))
  role_free t low high p (inr (inr (inr (inl (e, h))))) = ends t low high p (inr (inr (inl (e, h))))
  role_free t low high p (inr (inr (inr (inr (inl (e, inl h)))))) = forward (Direct t) low high h
  role_free t low high p (inr (inr (inr (inr (inl (e, inr h)))))) = backward (Inverse t) low high h
  role_free t low high p (inr (inr (inr (inr (inr (inl (e, inl h))))))) = forward (Inverse t) low high h
  role_free t low high p (inr (inr (inr (inr (inr (inl (e, inr h))))))) = backward (Direct t) low high h
  role_free t low high p (inr (inr (inr (inr (inr (inr (inl (e, h)))))))) = own t low high (ap term_of (roles_bound_same theory.axioms valid (Direct r) (Direct t) h))
  role_free t low high p (inr (inr (inr (inr (inr (inr (inr (e, h)))))))) = own t low high (ap term_of (roles_bound_same theory.axioms valid (Inverse r) (Inverse t) h))

  other_free : (t : Term) → from ≤ t.0 → t.0 < to → (p : _) → ¬ IsOtherGuardAt theory.axioms r a b t p
  other_free t low high p (inl (e, h)) = starts t low high p (inl (e, h))
  other_free t low high p (inr (inl (e, h))) = starts t low high p (inr (inr (inr (e, h))))
  other_free t low high p (inr (inr (inl (e, h)))) = ends t low high p (inl (e, h))
  other_free t low high p (inr (inr (inr (e, h)))) = ends t low high p (inr (inr (inr (e, h))))

  pub role_passed : HasNoGuard (IsKindGuardAt theory r a b) from to
  role_passed t low high p (inl (k, h)) = role_free t low high p h
  role_passed t low high p (inr (k, h)) = other_free t low high p h
