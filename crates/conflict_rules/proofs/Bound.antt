-- In a valid ontology a functional role or attribute is below itself alone.
use Rattle.std.proofs.Common.{◌≡◌, List, refl, sym, ◌∙◌, subst, inl, inr}
use Rattle.std.specs.Prelude.{Contains}
use Rattle.dl_base.specs.declared.axioms.Axiom.{Axiom}
use Rattle.dl_base.specs.declared.axioms.Axiom.TheVariants.{FunctionalRole, FunctionalAttr}
use Rattle.dl_base.specs.declared.terms.Term.{Term}
use Rattle.dl_base.specs.declared.terms.RoleSide.{RoleSide}
use Rattle.dl_base.specs.Derivation.{inverse}
use Rattle.dl_base.specs.Clash as c
use Rattle.dl_base.specs.Clash.{RoleReaches, AttrReaches}
use Rattle.dl_base.specs.Validity.{IsValid}
use Rattle.dl_base.proofs.ClosureLaws.{inverse_inverse}
use Rattle.dl_laws.specs.Meeting.{ShareFunctionalRole, ShareFunctionalAttr}

module _ (axioms : List Axiom) (valid : IsValid axioms) where
  role_stays : (q v : RoleSide) → Contains axioms (FunctionalRole v) → RoleReaches axioms q v → q ≡ v
  role_stays q v f (c.itself z) = refl
  role_stays q v f (c.further z w u p (inl n)) = absurd (valid.roles w v n (inl f))
  role_stays q v f (c.further z w u p (inr n)) = absurd (valid.roles (inverse w) (inverse v) n (inr (subst (λ (z : RoleSide). Contains axioms (FunctionalRole z)) (sym (inverse_inverse v)) f)))

  attr_stays : (u v : Term) → Contains axioms (FunctionalAttr v) → AttrReaches axioms u v → u ≡ v
  attr_stays u v f (c.itself z) = refl
  attr_stays u v f (c.further z w y p n) = absurd (valid.attrs w v n f)

  -- so a guard with another partner is of the fact's own role, from the same side
  pub roles_bound_same : (q r : RoleSide) → ShareFunctionalRole axioms q r → q ≡ r
  roles_bound_same q r (it, m, (v, x, h, l)) =
      let f = subst (Contains axioms) x m in
      role_stays q v f h ∙ sym (role_stays r v f l)

  pub attrs_bound_same : (u w : Term) → ShareFunctionalAttr axioms u w → u ≡ w
  attrs_bound_same u w (it, m, (v, x, h, l)) =
      let f = subst (Contains axioms) x m in
      attr_stays u v f h ∙ sym (attr_stays w v f l)
