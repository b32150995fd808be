-- What rows of disjoint nodes tell of concepts, roles and attributes.
use Rattle.std.proofs.Common.{◌≡◌, ℕ, List, [], refl, sym, ap, subst, inl, inr, ⊎_elim}
use Rattle.std.specs.Prelude.{Contains, ◌↔◌}
use Rattle.std.specs.List.{flat_map}
use Rattle.dl_base.specs.declared.axioms.Axiom.{Axiom}
use Rattle.dl_base.specs.declared.axioms.Axiom.TheVariants.{ConceptIn, ConceptApart, RoleIn, RoleApart, AttrIn, AttrApart, Range, FunctionalRole, FunctionalAttr, ConceptSome}
use Rattle.dl_base.specs.declared.terms.Term.{Term}
use Rattle.dl_base.specs.declared.terms.RoleSide.{RoleSide}
use Rattle.dl_base.specs.declared.terms.Basic.{Basic}
use Rattle.dl_base.specs.Clash.{RoleReaches, AttrReaches}
use Rattle.dl_base.specs.Reach.{ConceptReaches}
use Rattle.dl_base.proofs.Members.{here, nowhere}
use Rattle.dl_laws.specs.Edges.{concept_node, role_node, concept_edges, role_edges, attr_edges}
use Rattle.dl_laws.specs.Meeting.{AreDisjointConcepts, AreDisjointRoles, AreDisjointAttrs}
use Rattle.dl_laws.specs.Paths.{Path}
use Rattle.dl_laws.proofs.EdgeLaws.{IsEdge, one_edge, in_flat_map, out_of_flat_map, concept_paths, role_paths, attr_paths}
use Rattle.tbox_closure.specs.Disjointness.{concept_pairs, role_pairs, attr_pairs, IsDisjoint, AreDisjointRows}
use Rattle.tbox_closure.specs.Graphs.{HaveSamePaths}
use Rattle.tbox_closure.specs.Marks.{IsMarked, row}

-- the rows over a few of the edges are those over all
pub same_rows : (few edges pairs : List (ℕ × ℕ)) (rows : List (List ℕ)) → HaveSamePaths few edges → AreDisjointRows few pairs rows → AreDisjointRows edges pairs rows
same_rows few edges pairs rows same h i k = (
  λ m. let p = (h i k).0 m in (p.0, p.1, (same i p.0).0 p.2, (same k p.1).0 p.3, p.4),
  λ (d, e, p, q, m). (h i k).1 (d, e, (same i d).1 p, (same k e).1 q, m),
)

-- what a path over the graph tells, over equal nodes
pub told : (P Q : Type 0) (few edges : List (ℕ × ℕ)) (m n i j : ℕ) → P ↔ Path few m n → HaveSamePaths few edges → m ≡ i → n ≡ j → Path edges i j ↔ Q → P ↔ Q
told P Q few edges m n i j h same x y k =
    let one : P ↔ Path few i n = subst (λ (w : ℕ). P ↔ Path few w n) x h in
    let two : P ↔ Path few i j = subst (λ (w : ℕ). P ↔ Path few i w) y one in
    (λ p. k.0 ((same i j).0 (two.0 p)), λ q. two.1 ((same i j).1 (k.1 q)))

-- what a mark tells, over equal rows and nodes
pub mark_told : (P Q : Type 0) (rows given : List (List ℕ)) (m n i j : ℕ) → P ↔ IsMarked (row rows m) n → rows ≡ given → m ≡ i → n ≡ j → IsMarked (row given i) j ↔ Q → P ↔ Q
mark_told P Q rows given m n i j h x y z k =
    let one : P ↔ IsMarked (row given m) n = subst (λ (w : List (List ℕ)). P ↔ IsMarked (row w m) n) x h in
    let two : P ↔ IsMarked (row given i) n = subst (λ (w : ℕ). P ↔ IsMarked (row given w) n) y one in
    let three : P ↔ IsMarked (row given i) j = subst (λ (w : ℕ). P ↔ IsMarked (row given i) w) z two in
    (λ p. k.0 (three.0 p), λ q. three.1 (k.1 q))

module _ (axioms : List Axiom) where
  abbrev ConceptsApart : Basic → Basic → Type 0
  ConceptsApart b d = Contains axioms (ConceptApart b d)

  concepts_apart : (it : Axiom) (k : ℕ × ℕ) → Contains axioms it → Contains (concept_pairs it) k → IsEdge concept_node ConceptsApart k
  concepts_apart (ConceptIn b d) k m h = absurd (nowhere k h)
  concepts_apart (ConceptApart b d) k m h = one_edge concept_node ConceptsApart b d k m h
  concepts_apart (RoleIn q r) k m h = absurd (nowhere k h)
  concepts_apart (RoleApart q r) k m h = absurd (nowhere k h)
  concepts_apart (AttrIn u w) k m h = absurd (nowhere k h)
  concepts_apart (AttrApart u w) k m h = absurd (nowhere k h)
  concepts_apart (Range u w) k m h = absurd (nowhere k h)
  concepts_apart (FunctionalRole q) k m h = absurd (nowhere k h)
  concepts_apart (FunctionalAttr u) k m h = absurd (nowhere k h)
  concepts_apart (ConceptSome b q d) k m h = absurd (nowhere k h)

  concept_to : (b : Basic) (d : Basic) (k : ℕ) → concept_node d ≡ k → Path (flat_map concept_edges axioms) (concept_node b) k → ConceptReaches axioms b d
  concept_to b d k x p = (concept_paths axioms b d).0 (subst (Path (flat_map concept_edges axioms) (concept_node b)) (sym x) p)

  concept_of : (b c : Basic) (i j : ℕ) → Path (flat_map concept_edges axioms) (concept_node b) i → Path (flat_map concept_edges axioms) (concept_node c) j → Contains (flat_map concept_pairs axioms) (i, j)
      → (d : Basic) × (e : Basic) × Contains axioms (ConceptApart d e) × ConceptReaches axioms b d × ConceptReaches axioms c e
  concept_of b c i j p q m =
      let at : ℕ × ℕ = (i, j) in
      let o = out_of_flat_map concept_pairs axioms at m in
      let s = concepts_apart o.0 at o.1 o.2 in
      (s.0, s.1, s.3, concept_to b s.0 i (ap (λ (z : ℕ × ℕ). z.0) s.2) p, concept_to c s.1 j (ap (λ (z : ℕ × ℕ). z.1) s.2) q)

  concept_pair : (d e : Basic) → Contains axioms (ConceptApart d e) → Contains (flat_map concept_pairs axioms) (concept_node d, concept_node e)
  concept_pair d e m = let at : ℕ × ℕ = (concept_node d, concept_node e) in in_flat_map concept_pairs axioms (ConceptApart d e) at m (here at [])

  pub concept_disjoint : (b c : Basic) → IsDisjoint (flat_map concept_edges axioms) (flat_map concept_pairs axioms) (concept_node b) (concept_node c) ↔ AreDisjointConcepts axioms b c
  concept_disjoint b c = (
    λ (i, j, p, q, m). ⊎_elim
        (λ x. let s = concept_of b c i j p q x in inl (ConceptApart s.0 s.1, s.2, (s.0, s.1, refl, s.3, s.4)))
        (λ x. let s = concept_of c b j i q p x in inr (ConceptApart s.0 s.1, s.2, (s.0, s.1, refl, s.3, s.4)))
        m,
    λ s. ⊎_elim
        (λ (it, m, (d, e, x, h, l)). (concept_node d, concept_node e, (concept_paths axioms b d).1 h, (concept_paths axioms c e).1 l, inl (concept_pair d e (subst (Contains axioms) x m))))
        (λ (it, m, (d, e, x, h, l)). (concept_node e, concept_node d, (concept_paths axioms b e).1 l, (concept_paths axioms c d).1 h, inr (concept_pair d e (subst (Contains axioms) x m))))
        s,
  )

  abbrev RolesApart : RoleSide → RoleSide → Type 0
  RolesApart b d = Contains axioms (RoleApart b d)

  roles_apart : (it : Axiom) (k : ℕ × ℕ) → Contains axioms it → Contains (role_pairs it) k → IsEdge role_node RolesApart k
  roles_apart (ConceptIn b d) k m h = absurd (nowhere k h)
  roles_apart (ConceptApart b d) k m h = absurd (nowhere k h)
  roles_apart (RoleIn q r) k m h = absurd (nowhere k h)
  roles_apart (RoleApart q r) k m h = one_edge role_node RolesApart q r k m h
  roles_apart (AttrIn u w) k m h = absurd (nowhere k h)
  roles_apart (AttrApart u w) k m h = absurd (nowhere k h)
  roles_apart (Range u w) k m h = absurd (nowhere k h)
  roles_apart (FunctionalRole q) k m h = absurd (nowhere k h)
  roles_apart (FunctionalAttr u) k m h = absurd (nowhere k h)
  roles_apart (ConceptSome b q d) k m h = absurd (nowhere k h)

  role_to : (b : RoleSide) (d : RoleSide) (k : ℕ) → role_node d ≡ k → Path (flat_map role_edges axioms) (role_node b) k → RoleReaches axioms b d
  role_to b d k x p = (role_paths axioms b d).0 (subst (Path (flat_map role_edges axioms) (role_node b)) (sym x) p)

  role_of : (b c : RoleSide) (i j : ℕ) → Path (flat_map role_edges axioms) (role_node b) i → Path (flat_map role_edges axioms) (role_node c) j → Contains (flat_map role_pairs axioms) (i, j)
      → (d : RoleSide) × (e : RoleSide) × Contains axioms (RoleApart d e) × RoleReaches axioms b d × RoleReaches axioms c e
  role_of b c i j p q m =
      let at : ℕ × ℕ = (i, j) in
      let o = out_of_flat_map role_pairs axioms at m in
      let s = roles_apart o.0 at o.1 o.2 in
      (s.0, s.1, s.3, role_to b s.0 i (ap (λ (z : ℕ × ℕ). z.0) s.2) p, role_to c s.1 j (ap (λ (z : ℕ × ℕ). z.1) s.2) q)

  role_pair : (d e : RoleSide) → Contains axioms (RoleApart d e) → Contains (flat_map role_pairs axioms) (role_node d, role_node e)
  role_pair d e m = let at : ℕ × ℕ = (role_node d, role_node e) in in_flat_map role_pairs axioms (RoleApart d e) at m (here at [])

  pub role_disjoint : (b c : RoleSide) → IsDisjoint (flat_map role_edges axioms) (flat_map role_pairs axioms) (role_node b) (role_node c) ↔ AreDisjointRoles axioms b c
  role_disjoint b c = (
    λ (i, j, p, q, m). ⊎_elim
        (λ x. let s = role_of b c i j p q x in inl (RoleApart s.0 s.1, s.2, (s.0, s.1, refl, s.3, s.4)))
        (λ x. let s = role_of c b j i q p x in inr (RoleApart s.0 s.1, s.2, (s.0, s.1, refl, s.3, s.4)))
        m,
    λ s. ⊎_elim
        (λ (it, m, (d, e, x, h, l)). (role_node d, role_node e, (role_paths axioms b d).1 h, (role_paths axioms c e).1 l, inl (role_pair d e (subst (Contains axioms) x m))))
        (λ (it, m, (d, e, x, h, l)). (role_node e, role_node d, (role_paths axioms b e).1 l, (role_paths axioms c d).1 h, inr (role_pair d e (subst (Contains axioms) x m))))
        s,
  )

  abbrev attr_node : Term → ℕ
  attr_node u = u.0

  abbrev AttrsApart : Term → Term → Type 0
  AttrsApart b d = Contains axioms (AttrApart b d)

  attrs_apart : (it : Axiom) (k : ℕ × ℕ) → Contains axioms it → Contains (attr_pairs it) k → IsEdge attr_node AttrsApart k
  attrs_apart (ConceptIn b d) k m h = absurd (nowhere k h)
  attrs_apart (ConceptApart b d) k m h = absurd (nowhere k h)
  attrs_apart (RoleIn q r) k m h = absurd (nowhere k h)
  attrs_apart (RoleApart q r) k m h = absurd (nowhere k h)
  attrs_apart (AttrIn u w) k m h = absurd (nowhere k h)
  attrs_apart (AttrApart u w) k m h = one_edge attr_node AttrsApart u w k m h
  attrs_apart (Range u w) k m h = absurd (nowhere k h)
  attrs_apart (FunctionalRole q) k m h = absurd (nowhere k h)
  attrs_apart (FunctionalAttr u) k m h = absurd (nowhere k h)
  attrs_apart (ConceptSome b q d) k m h = absurd (nowhere k h)

  attr_to : (b : Term) (d : Term) (k : ℕ) → d.0 ≡ k → Path (flat_map attr_edges axioms) (b.0) k → AttrReaches axioms b d
  attr_to b d k x p = (attr_paths axioms b d).0 (subst (Path (flat_map attr_edges axioms) (b.0)) (sym x) p)

  attr_of : (b c : Term) (i j : ℕ) → Path (flat_map attr_edges axioms) (b.0) i → Path (flat_map attr_edges axioms) (c.0) j → Contains (flat_map attr_pairs axioms) (i, j)
      → (d : Term) × (e : Term) × Contains axioms (AttrApart d e) × AttrReaches axioms b d × AttrReaches axioms c e
  attr_of b c i j p q m =
      let at : ℕ × ℕ = (i, j) in
      let o = out_of_flat_map attr_pairs axioms at m in
      let s = attrs_apart o.0 at o.1 o.2 in
      (s.0, s.1, s.3, attr_to b s.0 i (ap (λ (z : ℕ × ℕ). z.0) s.2) p, attr_to c s.1 j (ap (λ (z : ℕ × ℕ). z.1) s.2) q)

  attr_pair : (d e : Term) → Contains axioms (AttrApart d e) → Contains (flat_map attr_pairs axioms) (d.0, e.0)
  attr_pair d e m = let at : ℕ × ℕ = (d.0, e.0) in in_flat_map attr_pairs axioms (AttrApart d e) at m (here at [])

  pub attr_disjoint : (b c : Term) → IsDisjoint (flat_map attr_edges axioms) (flat_map attr_pairs axioms) (b.0) (c.0) ↔ AreDisjointAttrs axioms b c
  attr_disjoint b c = (
    λ (i, j, p, q, m). ⊎_elim
        (λ x. let s = attr_of b c i j p q x in inl (AttrApart s.0 s.1, s.2, (s.0, s.1, refl, s.3, s.4)))
        (λ x. let s = attr_of c b j i q p x in inr (AttrApart s.0 s.1, s.2, (s.0, s.1, refl, s.3, s.4)))
        m,
    λ s. ⊎_elim
        (λ (it, m, (d, e, x, h, l)). (d.0, e.0, (attr_paths axioms b d).1 h, (attr_paths axioms c e).1 l, inl (attr_pair d e (subst (Contains axioms) x m))))
        (λ (it, m, (d, e, x, h, l)). (e.0, d.0, (attr_paths axioms b e).1 l, (attr_paths axioms c d).1 h, inr (attr_pair d e (subst (Contains axioms) x m))))
        s,
  )
