-- Whether axioms part, bind or tear.
use Rattle.std.proofs.Common.{◌≡◌, ℕ, List, refl, ap, subst, inl, inr, ◌⊎◌, ⊎_elim}
use Rattle.std.specs.Prelude.{Contains, ◌≢◌}
use Rattle.std.proofs.lemmas.Bool.{cases_eq}
use Rattle.dl_base.specs.declared.axioms.Axiom.{Axiom}
use Rattle.dl_base.specs.declared.axioms.Axiom.TheVariants.{ConceptIn, ConceptApart, RoleIn, RoleApart, AttrIn, AttrApart, Range, FunctionalRole, FunctionalAttr, ConceptSome}
use Rattle.dl_base.specs.declared.names.Value.{Value}
use Rattle.dl_base.specs.declared.terms.Term.{Term}
use Rattle.dl_base.specs.declared.terms.RoleSide.{RoleSide}
use Rattle.dl_base.specs.declared.terms.Basic.{Basic}
use Rattle.dl_base.specs.declared.terms.Basic.TheVariants as basic
use Rattle.dl_base.specs.Derivation.{inverse}
use Rattle.dl_base.specs.Clash.{RoleReaches, AttrReaches}
use Rattle.dl_base.specs.Reach.{ConceptReaches}
use Rattle.dl_laws.specs.Emptiness as e
use Rattle.dl_laws.specs.Emptiness.{NeedStep, Needs, IsContradictory, IsUnsatisfiable, IsFilled, Collide}
use Rattle.dl_laws.specs.Edges.{concept_node, role_node, concept_edges, role_edges, attr_edges}
use Rattle.dl_laws.specs.Meeting.{HasOtherRange, HasTwoRanges}
use Rattle.dl_laws.proofs.EdgeLaws.{concept_paths, role_paths, attr_paths, concept_is}
use Rattle.std.specs.List.{flat_map}
use Rattle.dl_laws.specs.Meeting.{SomeAxiom, PartsConcepts, PartsRoles, PartsAttrs, BindsRoles, BindsAttrs, RangesAttrs}
use Rattle.dl_laws.proofs.Telling.{Told, told_by, told_or, told_not, told_both, told_some, same_list, same_value}
use Rattle.dl_laws.proofs.PathTelling.{told_path}

pub same_concept : (b k : Basic) → Told (b ≡ k)
same_concept b k = ⊎_elim (λ h. inl (concept_is b k h)) (λ n. inr (λ i. n (ap concept_node i))) (cases_eq (concept_node b) (concept_node k))

module _ (axioms : List Axiom) where
  pub told_concept : (b d : Basic) → Told (ConceptReaches axioms b d)
  told_concept b d = told_by (concept_paths axioms b d) (told_path (flat_map concept_edges axioms) (concept_node b) (concept_node d))

  pub told_role : (q r : RoleSide) → Told (RoleReaches axioms q r)
  told_role q r = told_by (role_paths axioms q r) (told_path (flat_map role_edges axioms) (role_node q) (role_node r))

  pub told_attr : (u w : Term) → Told (AttrReaches axioms u w)
  told_attr u w = told_by (attr_paths axioms u w) (told_path (flat_map attr_edges axioms) u.0 w.0)

  abbrev pub PartsFilled : RoleSide → Basic → Axiom → Type 0
  PartsFilled q f it = (d : Basic) × (g : Basic) × (it ≡ ConceptApart d g) × IsFilled axioms q f d × IsFilled axioms q f g

  abbrev pub HasContradictoryFiller : Basic → Axiom → Type 0
  HasContradictoryFiller b it = (q : RoleSide) × (f : Basic) × (it ≡ ConceptSome b q f) × SomeAxiom axioms (PartsFilled q f)

  told_filled : (q : RoleSide) (f k : Basic) → Told (IsFilled axioms q f k)
  told_filled q f k = told_or (told_concept (basic.Exists (inverse q)) k) (told_concept f k)

  parts_concepts_at : (b k : Basic) (v : Basic) (w : Basic) → Told (ConceptReaches axioms b v) → Told (ConceptReaches axioms k w) → Told (PartsConcepts axioms b k (ConceptApart v w))
  parts_concepts_at b k v w (inl h0) (inl h1) = inl (v, w, refl, h0, h1)
  parts_concepts_at b k v w (inr n) k1 = inr (λ x. let same : x.0 ≡ v = (let i = x.2 in cc) in n (subst (λ (s : Basic). ConceptReaches axioms b s) same x.3))
  parts_concepts_at b k v w (inl h0) (inr n) = inr (λ x. let same : x.1 ≡ w = (let i = x.2 in cc) in n (subst (λ (s : Basic). ConceptReaches axioms k s) same x.4))

  parts_concepts : (b k : Basic) (it : Axiom) → Told (PartsConcepts axioms b k it)
  parts_concepts b k (ConceptIn m0 m1) = inr (λ x. let i = x.2 in cc)
  parts_concepts b k (ConceptApart v w) = parts_concepts_at b k v w (told_concept b v) (told_concept k w)
  parts_concepts b k (RoleIn m0 m1) = inr (λ x. let i = x.2 in cc)
  parts_concepts b k (RoleApart m0 m1) = inr (λ x. let i = x.2 in cc)
  parts_concepts b k (AttrIn m0 m1) = inr (λ x. let i = x.2 in cc)
  parts_concepts b k (AttrApart m0 m1) = inr (λ x. let i = x.2 in cc)
  parts_concepts b k (Range m0 m1) = inr (λ x. let i = x.2 in cc)
  parts_concepts b k (FunctionalRole m0) = inr (λ x. let i = x.2 in cc)
  parts_concepts b k (FunctionalAttr m0) = inr (λ x. let i = x.2 in cc)
  parts_concepts b k (ConceptSome m0 m1 m2) = inr (λ x. let i = x.2 in cc)

  parts_roles_at : (q r : RoleSide) (v : RoleSide) (w : RoleSide) → Told (RoleReaches axioms q v) → Told (RoleReaches axioms r w) → Told (PartsRoles axioms q r (RoleApart v w))
  parts_roles_at q r v w (inl h0) (inl h1) = inl (v, w, refl, h0, h1)
  parts_roles_at q r v w (inr n) k1 = inr (λ x. let same : x.0 ≡ v = (let i = x.2 in cc) in n (subst (λ (s : RoleSide). RoleReaches axioms q s) same x.3))
  parts_roles_at q r v w (inl h0) (inr n) = inr (λ x. let same : x.1 ≡ w = (let i = x.2 in cc) in n (subst (λ (s : RoleSide). RoleReaches axioms r s) same x.4))

  parts_roles : (q r : RoleSide) (it : Axiom) → Told (PartsRoles axioms q r it)
  parts_roles q r (ConceptIn m0 m1) = inr (λ x. let i = x.2 in cc)
  parts_roles q r (ConceptApart m0 m1) = inr (λ x. let i = x.2 in cc)
  parts_roles q r (RoleIn m0 m1) = inr (λ x. let i = x.2 in cc)
  parts_roles q r (RoleApart v w) = parts_roles_at q r v w (told_role q v) (told_role r w)
  parts_roles q r (AttrIn m0 m1) = inr (λ x. let i = x.2 in cc)
  parts_roles q r (AttrApart m0 m1) = inr (λ x. let i = x.2 in cc)
  parts_roles q r (Range m0 m1) = inr (λ x. let i = x.2 in cc)
  parts_roles q r (FunctionalRole m0) = inr (λ x. let i = x.2 in cc)
  parts_roles q r (FunctionalAttr m0) = inr (λ x. let i = x.2 in cc)
  parts_roles q r (ConceptSome m0 m1 m2) = inr (λ x. let i = x.2 in cc)

  parts_attrs_at : (q r : Term) (v : Term) (w : Term) → Told (AttrReaches axioms q v) → Told (AttrReaches axioms r w) → Told (PartsAttrs axioms q r (AttrApart v w))
  parts_attrs_at q r v w (inl h0) (inl h1) = inl (v, w, refl, h0, h1)
  parts_attrs_at q r v w (inr n) k1 = inr (λ x. let same : x.0 ≡ v = (let i = x.2 in cc) in n (subst (λ (s : Term). AttrReaches axioms q s) same x.3))
  parts_attrs_at q r v w (inl h0) (inr n) = inr (λ x. let same : x.1 ≡ w = (let i = x.2 in cc) in n (subst (λ (s : Term). AttrReaches axioms r s) same x.4))

  parts_attrs : (q r : Term) (it : Axiom) → Told (PartsAttrs axioms q r it)
  parts_attrs q r (ConceptIn m0 m1) = inr (λ x. let i = x.2 in cc)
  parts_attrs q r (ConceptApart m0 m1) = inr (λ x. let i = x.2 in cc)
  parts_attrs q r (RoleIn m0 m1) = inr (λ x. let i = x.2 in cc)
  parts_attrs q r (RoleApart m0 m1) = inr (λ x. let i = x.2 in cc)
  parts_attrs q r (AttrIn m0 m1) = inr (λ x. let i = x.2 in cc)
  parts_attrs q r (AttrApart v w) = parts_attrs_at q r v w (told_attr q v) (told_attr r w)
  parts_attrs q r (Range m0 m1) = inr (λ x. let i = x.2 in cc)
  parts_attrs q r (FunctionalRole m0) = inr (λ x. let i = x.2 in cc)
  parts_attrs q r (FunctionalAttr m0) = inr (λ x. let i = x.2 in cc)
  parts_attrs q r (ConceptSome m0 m1 m2) = inr (λ x. let i = x.2 in cc)

  binds_roles_at : (q r : RoleSide) (v : RoleSide) → Told (RoleReaches axioms q v) → Told (RoleReaches axioms r v) → Told (BindsRoles axioms q r (FunctionalRole v))
  binds_roles_at q r v (inl h0) (inl h1) = inl (v, refl, h0, h1)
  binds_roles_at q r v (inr n) k1 = inr (λ x. let same : x.0 ≡ v = (let i = x.1 in cc) in n (subst (λ (s : RoleSide). RoleReaches axioms q s) same x.2))
  binds_roles_at q r v (inl h0) (inr n) = inr (λ x. let same : x.0 ≡ v = (let i = x.1 in cc) in n (subst (λ (s : RoleSide). RoleReaches axioms r s) same x.3))

  binds_roles : (q r : RoleSide) (it : Axiom) → Told (BindsRoles axioms q r it)
  binds_roles q r (ConceptIn m0 m1) = inr (λ x. let i = x.1 in cc)
  binds_roles q r (ConceptApart m0 m1) = inr (λ x. let i = x.1 in cc)
  binds_roles q r (RoleIn m0 m1) = inr (λ x. let i = x.1 in cc)
  binds_roles q r (RoleApart m0 m1) = inr (λ x. let i = x.1 in cc)
  binds_roles q r (AttrIn m0 m1) = inr (λ x. let i = x.1 in cc)
  binds_roles q r (AttrApart m0 m1) = inr (λ x. let i = x.1 in cc)
  binds_roles q r (Range m0 m1) = inr (λ x. let i = x.1 in cc)
  binds_roles q r (FunctionalRole v) = binds_roles_at q r v (told_role q v) (told_role r v)
  binds_roles q r (FunctionalAttr m0) = inr (λ x. let i = x.1 in cc)
  binds_roles q r (ConceptSome m0 m1 m2) = inr (λ x. let i = x.1 in cc)

  binds_attrs_at : (q r : Term) (v : Term) → Told (AttrReaches axioms q v) → Told (AttrReaches axioms r v) → Told (BindsAttrs axioms q r (FunctionalAttr v))
  binds_attrs_at q r v (inl h0) (inl h1) = inl (v, refl, h0, h1)
  binds_attrs_at q r v (inr n) k1 = inr (λ x. let same : x.0 ≡ v = (let i = x.1 in cc) in n (subst (λ (s : Term). AttrReaches axioms q s) same x.2))
  binds_attrs_at q r v (inl h0) (inr n) = inr (λ x. let same : x.0 ≡ v = (let i = x.1 in cc) in n (subst (λ (s : Term). AttrReaches axioms r s) same x.3))

  binds_attrs : (q r : Term) (it : Axiom) → Told (BindsAttrs axioms q r it)
  binds_attrs q r (ConceptIn m0 m1) = inr (λ x. let i = x.1 in cc)
  binds_attrs q r (ConceptApart m0 m1) = inr (λ x. let i = x.1 in cc)
  binds_attrs q r (RoleIn m0 m1) = inr (λ x. let i = x.1 in cc)
  binds_attrs q r (RoleApart m0 m1) = inr (λ x. let i = x.1 in cc)
  binds_attrs q r (AttrIn m0 m1) = inr (λ x. let i = x.1 in cc)
  binds_attrs q r (AttrApart m0 m1) = inr (λ x. let i = x.1 in cc)
  binds_attrs q r (Range m0 m1) = inr (λ x. let i = x.1 in cc)
  binds_attrs q r (FunctionalRole m0) = inr (λ x. let i = x.1 in cc)
  binds_attrs q r (FunctionalAttr v) = binds_attrs_at q r v (told_attr q v) (told_attr r v)
  binds_attrs q r (ConceptSome m0 m1 m2) = inr (λ x. let i = x.1 in cc)

  ranges_attrs_at : (q r : Term) (d : List ℕ) (v : Term) (w : List ℕ) → Told (d ≢ w) → Told (AttrReaches axioms q v) → Told (AttrReaches axioms r v) → Told (RangesAttrs axioms q r d (Range v w))
  ranges_attrs_at q r d v w (inl h0) (inl h1) (inl h2) = inl (v, w, refl, h0, h1, h2)
  ranges_attrs_at q r d v w (inr n) k1 k2 = inr (λ x. let same : x.1 ≡ w = (let i = x.2 in cc) in n (subst (λ (s : List ℕ). d ≢ s) same x.3))
  ranges_attrs_at q r d v w (inl h0) (inr n) k2 = inr (λ x. let same : x.0 ≡ v = (let i = x.2 in cc) in n (subst (λ (s : Term). AttrReaches axioms q s) same x.4))
  ranges_attrs_at q r d v w (inl h0) (inl h1) (inr n) = inr (λ x. let same : x.0 ≡ v = (let i = x.2 in cc) in n (subst (λ (s : Term). AttrReaches axioms r s) same x.5))

  ranges_attrs : (q r : Term) (d : List ℕ) (it : Axiom) → Told (RangesAttrs axioms q r d it)
  ranges_attrs q r d (ConceptIn m0 m1) = inr (λ x. let i = x.2 in cc)
  ranges_attrs q r d (ConceptApart m0 m1) = inr (λ x. let i = x.2 in cc)
  ranges_attrs q r d (RoleIn m0 m1) = inr (λ x. let i = x.2 in cc)
  ranges_attrs q r d (RoleApart m0 m1) = inr (λ x. let i = x.2 in cc)
  ranges_attrs q r d (AttrIn m0 m1) = inr (λ x. let i = x.2 in cc)
  ranges_attrs q r d (AttrApart m0 m1) = inr (λ x. let i = x.2 in cc)
  ranges_attrs q r d (Range v w) = ranges_attrs_at q r d v w (told_not (same_list d w)) (told_attr q v) (told_attr r v)
  ranges_attrs q r d (FunctionalRole m0) = inr (λ x. let i = x.2 in cc)
  ranges_attrs q r d (FunctionalAttr m0) = inr (λ x. let i = x.2 in cc)
  ranges_attrs q r d (ConceptSome m0 m1 m2) = inr (λ x. let i = x.2 in cc)

  other_range_at : (u : Term) (d : List ℕ) (v : Term) (w : List ℕ) → Told (d ≢ w) → Told (AttrReaches axioms u v) → Told (HasOtherRange axioms u d (Range v w))
  other_range_at u d v w (inl h0) (inl h1) = inl (v, w, refl, h0, h1)
  other_range_at u d v w (inr n) k1 = inr (λ x. let same : x.1 ≡ w = (let i = x.2 in cc) in n (subst (λ (s : List ℕ). d ≢ s) same x.3))
  other_range_at u d v w (inl h0) (inr n) = inr (λ x. let same : x.0 ≡ v = (let i = x.2 in cc) in n (subst (λ (s : Term). AttrReaches axioms u s) same x.4))

  other_range : (u : Term) (d : List ℕ) (it : Axiom) → Told (HasOtherRange axioms u d it)
  other_range u d (ConceptIn m0 m1) = inr (λ x. let i = x.2 in cc)
  other_range u d (ConceptApart m0 m1) = inr (λ x. let i = x.2 in cc)
  other_range u d (RoleIn m0 m1) = inr (λ x. let i = x.2 in cc)
  other_range u d (RoleApart m0 m1) = inr (λ x. let i = x.2 in cc)
  other_range u d (AttrIn m0 m1) = inr (λ x. let i = x.2 in cc)
  other_range u d (AttrApart m0 m1) = inr (λ x. let i = x.2 in cc)
  other_range u d (Range v w) = other_range_at u d v w (told_not (same_list d w)) (told_attr u v)
  other_range u d (FunctionalRole m0) = inr (λ x. let i = x.2 in cc)
  other_range u d (FunctionalAttr m0) = inr (λ x. let i = x.2 in cc)
  other_range u d (ConceptSome m0 m1 m2) = inr (λ x. let i = x.2 in cc)

  two_ranges_at : (u : Term) (v : Term) (w : List ℕ) → Told (AttrReaches axioms u v) → Told (SomeAxiom axioms (HasOtherRange axioms u w)) → Told (HasTwoRanges axioms u (Range v w))
  two_ranges_at u v w (inl h0) (inl h1) = inl (v, w, refl, h0, h1)
  two_ranges_at u v w (inr n) k1 = inr (λ x. let same : x.0 ≡ v = (let i = x.2 in cc) in n (subst (λ (s : Term). AttrReaches axioms u s) same x.3))
  two_ranges_at u v w (inl h0) (inr n) = inr (λ x. let same : x.1 ≡ w = (let i = x.2 in cc) in n (subst (λ (s : List ℕ). SomeAxiom axioms (HasOtherRange axioms u s)) same x.4))

  two_ranges : (u : Term) (it : Axiom) → Told (HasTwoRanges axioms u it)
  two_ranges u (ConceptIn m0 m1) = inr (λ x. let i = x.2 in cc)
  two_ranges u (ConceptApart m0 m1) = inr (λ x. let i = x.2 in cc)
  two_ranges u (RoleIn m0 m1) = inr (λ x. let i = x.2 in cc)
  two_ranges u (RoleApart m0 m1) = inr (λ x. let i = x.2 in cc)
  two_ranges u (AttrIn m0 m1) = inr (λ x. let i = x.2 in cc)
  two_ranges u (AttrApart m0 m1) = inr (λ x. let i = x.2 in cc)
  two_ranges u (Range v w) = two_ranges_at u v w (told_attr u v) (told_some (HasOtherRange axioms u w) axioms (other_range u w))
  two_ranges u (FunctionalRole m0) = inr (λ x. let i = x.2 in cc)
  two_ranges u (FunctionalAttr m0) = inr (λ x. let i = x.2 in cc)
  two_ranges u (ConceptSome m0 m1 m2) = inr (λ x. let i = x.2 in cc)

  parts_filled_at : (q : RoleSide) (f : Basic) (v : Basic) (w : Basic) → Told (IsFilled axioms q f v) → Told (IsFilled axioms q f w) → Told (PartsFilled q f (ConceptApart v w))
  parts_filled_at q f v w (inl h0) (inl h1) = inl (v, w, refl, h0, h1)
  parts_filled_at q f v w (inr n) k1 = inr (λ x. let same : x.0 ≡ v = (let i = x.2 in cc) in n (subst (λ (s : Basic). IsFilled axioms q f s) same x.3))
  parts_filled_at q f v w (inl h0) (inr n) = inr (λ x. let same : x.1 ≡ w = (let i = x.2 in cc) in n (subst (λ (s : Basic). IsFilled axioms q f s) same x.4))

  parts_filled : (q : RoleSide) (f : Basic) (it : Axiom) → Told (PartsFilled q f it)
  parts_filled q f (ConceptIn m0 m1) = inr (λ x. let i = x.2 in cc)
  parts_filled q f (ConceptApart v w) = parts_filled_at q f v w (told_filled q f v) (told_filled q f w)
  parts_filled q f (RoleIn m0 m1) = inr (λ x. let i = x.2 in cc)
  parts_filled q f (RoleApart m0 m1) = inr (λ x. let i = x.2 in cc)
  parts_filled q f (AttrIn m0 m1) = inr (λ x. let i = x.2 in cc)
  parts_filled q f (AttrApart m0 m1) = inr (λ x. let i = x.2 in cc)
  parts_filled q f (Range m0 m1) = inr (λ x. let i = x.2 in cc)
  parts_filled q f (FunctionalRole m0) = inr (λ x. let i = x.2 in cc)
  parts_filled q f (FunctionalAttr m0) = inr (λ x. let i = x.2 in cc)
  parts_filled q f (ConceptSome m0 m1 m2) = inr (λ x. let i = x.2 in cc)

  fills_at : (b v : Basic) (w : RoleSide) (z : Basic) → Told (v ≡ b) → Told (SomeAxiom axioms (PartsFilled w z)) → Told (HasContradictoryFiller b (ConceptSome v w z))
  fills_at b v w z (inl same) (inl h) = inl (w, z, ap (λ (s : Basic). ConceptSome s w z) same, h)
  fills_at b v w z (inl same) (inr n) = inr (λ (q, f, i, h). let x : q ≡ w = cc in let y : f ≡ z = cc in n (subst (λ (s : RoleSide). SomeAxiom axioms (PartsFilled s z)) x (subst (λ (s : Basic). SomeAxiom axioms (PartsFilled q s)) y h)))
  fills_at b v w z (inr n) k = inr (λ (q, f, i, h). n cc)

  fills_contradictory : (b : Basic) (it : Axiom) → Told (HasContradictoryFiller b it)
  fills_contradictory b (ConceptIn m0 m1) = inr (λ x. let i = x.2 in cc)
  fills_contradictory b (ConceptApart m0 m1) = inr (λ x. let i = x.2 in cc)
  fills_contradictory b (RoleIn m0 m1) = inr (λ x. let i = x.2 in cc)
  fills_contradictory b (RoleApart m0 m1) = inr (λ x. let i = x.2 in cc)
  fills_contradictory b (AttrIn m0 m1) = inr (λ x. let i = x.2 in cc)
  fills_contradictory b (AttrApart m0 m1) = inr (λ x. let i = x.2 in cc)
  fills_contradictory b (Range m0 m1) = inr (λ x. let i = x.2 in cc)
  fills_contradictory b (FunctionalRole m0) = inr (λ x. let i = x.2 in cc)
  fills_contradictory b (FunctionalAttr m0) = inr (λ x. let i = x.2 in cc)
  fills_contradictory b (ConceptSome v w z) = fills_at b v w z (same_concept v b) (told_some (PartsFilled w z) axioms (parts_filled w z))

  abbrev KindContradictory : Basic → Type 0
  KindContradictory (basic.Class t) = ⊥
  KindContradictory (basic.Exists q) = SomeAxiom axioms (PartsRoles axioms q q)
  KindContradictory (basic.Domain u) = SomeAxiom axioms (PartsAttrs axioms u u) ⊎ SomeAxiom axioms (HasTwoRanges axioms u)

  told_kind : (b : Basic) → Told (KindContradictory b)
  told_kind (basic.Class t) = inr (λ h. h)
  told_kind (basic.Exists q) = told_some (PartsRoles axioms q q) axioms (parts_roles q q)
  told_kind (basic.Domain u) = told_or (told_some (PartsAttrs axioms u u) axioms (parts_attrs u u)) (told_some (HasTwoRanges axioms u) axioms (two_ranges u))

  abbrev ContradictoryWhy : Basic → Type 0
  ContradictoryWhy b = SomeAxiom axioms (PartsConcepts axioms b b) ⊎ (KindContradictory b ⊎ SomeAxiom axioms (HasContradictoryFiller b))

  why : (b : Basic) → IsContradictory axioms b → ContradictoryWhy b
  why b (e.concepts k d g m h i) = inl (ConceptApart d g, m, (d, g, refl, h, i))
  why b (e.roles q r s m h i) = inr (inl (RoleApart r s, m, (r, s, refl, h, i)))
  why b (e.attrs u v w m h i) = inr (inl (inl (AttrApart v w, m, (v, w, refl, h, i))))
  why b (e.ranges u v w d g m n ne h i) = inr (inl (inr (Range v d, m, (v, d, refl, h, (Range w g, n, (w, g, refl, ne, i))))))
  why b (e.fillers k f d g q m n h i) = inr (inr (ConceptSome b q f, m, (q, f, refl, (ConceptApart d g, n, (d, g, refl, h, i)))))

  by_kind : (b : Basic) → KindContradictory b → IsContradictory axioms b
  by_kind (basic.Class t) h = absurd h
  by_kind (basic.Exists q) (it, m, (v, w, x, h, i)) = e.roles q v w (subst (Contains axioms) x m) h i
  by_kind (basic.Domain u) (inl (it, m, (v, w, x, h, i))) = e.attrs u v w (subst (Contains axioms) x m) h i
  by_kind (basic.Domain u) (inr (it, m, (v, d, x, h, (other, n, (w, g, y, ne, i))))) = e.ranges u v w d g (subst (Contains axioms) x m) (subst (Contains axioms) y n) ne h i

  contradictory_by : (b : Basic) → ContradictoryWhy b → IsContradictory axioms b
  contradictory_by b (inl (it, m, (d, g, x, h, i))) = e.concepts b d g (subst (Contains axioms) x m) h i
  contradictory_by b (inr (inl h)) = by_kind b h
  contradictory_by b (inr (inr (it, m, (q, f, x, (other, n, (d, g, y, h, i)))))) = e.fillers b f d g q (subst (Contains axioms) x m) (subst (Contains axioms) y n) h i

  pub told_contradictory : (b : Basic) → Told (IsContradictory axioms b)
  told_contradictory b = told_by (contradictory_by b, why b) (told_or (told_some (PartsConcepts axioms b b) axioms (parts_concepts b b)) (told_or (told_kind b) (told_some (HasContradictoryFiller b) axioms (fills_contradictory b))))

  pub told_parts_concepts : (b k : Basic) → Told (SomeAxiom axioms (PartsConcepts axioms b k))
  told_parts_concepts b k = told_some (PartsConcepts axioms b k) axioms (parts_concepts b k)

  pub told_role_why : (b d : List ℕ) (q r : RoleSide) → Told (((b ≡ d) × SomeAxiom axioms (PartsRoles axioms q r)) ⊎ ((b ≢ d) × SomeAxiom axioms (BindsRoles axioms q r)))
  told_role_why b d q r = told_or
      (told_both (same_list b d) (told_some (PartsRoles axioms q r) axioms (parts_roles q r)))
      (told_both (told_not (same_list b d)) (told_some (BindsRoles axioms q r) axioms (binds_roles q r)))

  pub told_attr_why : (x y : Value) (u w : Term)
      → Told (((x ≡ y) × (SomeAxiom axioms (PartsAttrs axioms u w) ⊎ SomeAxiom axioms (RangesAttrs axioms u w x.datatype))) ⊎ ((x ≢ y) × SomeAxiom axioms (BindsAttrs axioms u w)))
  told_attr_why x y u w = told_or
      (told_both (same_value x y) (told_or (told_some (PartsAttrs axioms u w) axioms (parts_attrs u w)) (told_some (RangesAttrs axioms u w x.datatype) axioms (ranges_attrs u w x.datatype))))
      (told_both (told_not (same_value x y)) (told_some (BindsAttrs axioms u w) axioms (binds_attrs u w)))
