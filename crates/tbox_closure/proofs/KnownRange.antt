-- What a known axiom names is in range.
use Rattle.std.proofs.Common.{ℕ, ◌<◌, ◌*◌, length, List, [], ◌∷◌, subst, inl, inr, ⊎_elim, arith}
use Rattle.std.specs.Prelude.{Contains}
use Rattle.std.specs.List.{flat_map}
use Rattle.std.proofs.lemmas.Option.{slice_get_within}
use Rattle.std.proofs.lemmas.List.Elements.{All-contains}
use Rattle.dl_base.specs.declared.axioms.Axiom.{Axiom}
use Rattle.dl_base.specs.declared.axioms.Axiom.TheVariants.{ConceptIn, ConceptApart, RoleIn, RoleApart, AttrIn, AttrApart, Range, FunctionalRole, FunctionalAttr, ConceptSome}
use Rattle.dl_base.specs.declared.terms.Kind.{Kind}
use Rattle.dl_base.specs.declared.terms.Kind.TheVariants as kind
use Rattle.dl_base.specs.declared.terms.Term.{Term}
use Rattle.dl_base.specs.declared.terms.RoleSide.{RoleSide}
use Rattle.dl_base.specs.declared.terms.RoleSide.TheVariants.{Direct, Inverse}
use Rattle.dl_base.specs.declared.terms.Basic.{Basic}
use Rattle.dl_base.specs.declared.terms.Basic.TheVariants as basic
use Rattle.dl_base.specs.Derivation.{inverse}
use Rattle.dl_base.specs.Clash as c
use Rattle.dl_base.specs.Clash.{RoleReaches, AttrReaches}
use Rattle.dl_base.specs.Reach as reach
use Rattle.dl_base.specs.Reach.{ConceptStep, ConceptReaches}
use Rattle.dl_base.specs.Ontologies.{Theory, IsTerm, KnowsRole, KnowsConcept, KnowsAxiom, IsKnown}
use Rattle.dl_base.proofs.Members.{alone, nowhere, cons_cases}
use Rattle.dl_laws.specs.Emptiness as e
use Rattle.dl_laws.specs.Emptiness.{IsContradictory}
use Rattle.tbox_closure.specs.declared.edges.Part.TheVariants as part
use Rattle.tbox_closure.specs.Graphs.{AreBelow}
use Rattle.tbox_closure.specs.Tables.{term_number}
use Rattle.dl_laws.specs.Edges.{concept_node, merged_node, role_node, concept_edges, role_edges, attr_edges, need_edges}
use Rattle.tbox_closure.specs.Edges.{all_edges}
use Rattle.tbox_closure.specs.declared.disjointness.Disjointness.TheVariants as disjoint
use Rattle.tbox_closure.specs.Disjointness.{all_pairs, concept_pairs, role_pairs, attr_pairs}
use Rattle.dl_laws.proofs.EdgeLaws.{out_of_flat_map}

abbrev IsIn : ℕ → ℕ × ℕ → Type 0
IsIn n k = (k.0 < n) × (k.1 < n)

one : (n i j : ℕ) (k : ℕ × ℕ) → i < n → j < n → Contains ((i, j) ∷ []) k → IsIn n k
one n i j k x y m = subst (IsIn n) (alone (i, j) k m) (x, y)

two : (n i j v w : ℕ) (k : ℕ × ℕ) → i < n → j < n → v < n → w < n → Contains ((i, j) ∷ (v, w) ∷ []) k → IsIn n k
two n i j v w k x y z t m = ⊎_elim (λ s. subst (IsIn n) s (x, y)) (λ r. one n v w k z t r) (cons_cases (i, j) ((v, w) ∷ []) k m)

module _ (theory : Theory) where
  abbrev pub count : ℕ
  count = length theory.terms

  abbrev nodes : ℕ
  nodes = 4 * count

  term_in : (t : Term) (k : Kind) → IsTerm theory t k → t.0 < count
  term_in t k (name, h) = slice_get_within theory.terms t.0 (name, k) h

  turned_known : (q : RoleSide) → KnowsRole theory q → KnowsRole theory (inverse q)
  turned_known (Direct p) h = h
  turned_known (Inverse p) h = h

  pub concept_in : (b : Basic) → KnowsConcept theory b → concept_node b < nodes
  concept_in (basic.Class t) h = let l = term_in t kind.Class h in omega (arith, l)
  concept_in (basic.Exists (Direct t)) h = let l = term_in t kind.Role h in omega (arith, l)
  concept_in (basic.Exists (Inverse t)) h = let l = term_in t kind.Role h in omega (arith, l)
  concept_in (basic.Domain t) h = let l = term_in t kind.Attr h in omega (arith, l)

  pub number_in : (b : Basic) → KnowsConcept theory b → term_number b < count
  number_in (basic.Class t) h = term_in t kind.Class h
  number_in (basic.Exists (Direct t)) h = term_in t kind.Role h
  number_in (basic.Exists (Inverse t)) h = term_in t kind.Role h
  number_in (basic.Domain t) h = term_in t kind.Attr h

  pub merged_in : (b : Basic) → KnowsConcept theory b → merged_node b < nodes
  merged_in (basic.Class t) h = let l = term_in t kind.Class h in omega (arith, l)
  merged_in (basic.Exists (Direct t)) h = let l = term_in t kind.Role h in omega (arith, l)
  merged_in (basic.Exists (Inverse t)) h = let l = term_in t kind.Role h in omega (arith, l)
  merged_in (basic.Domain t) h = let l = term_in t kind.Attr h in omega (arith, l)

  role_in : (q : RoleSide) → KnowsRole theory q → role_node q < 2 * count
  role_in (Direct t) h = let l = term_in t kind.Role h in omega (arith, l)
  role_in (Inverse t) h = let l = term_in t kind.Role h in omega (arith, l)

  attr_in : (u : Term) → IsTerm theory u kind.Attr → u.0 < count
  attr_in u h = term_in u kind.Attr h

  concepts_below : (it : Axiom) (k : ℕ × ℕ) → KnowsAxiom theory it → Contains (concept_edges it) k → IsIn nodes k
  concepts_below (ConceptIn b d) k h m = one nodes (concept_node b) (concept_node d) k (concept_in b h.0) (concept_in d h.1) m
  concepts_below (ConceptApart b d) k h m = absurd (nowhere k m)
  concepts_below (RoleIn q r) k h m = two nodes (concept_node (basic.Exists q)) (concept_node (basic.Exists r)) (concept_node (basic.Exists (inverse q))) (concept_node (basic.Exists (inverse r))) k
      (concept_in (basic.Exists q) h.0) (concept_in (basic.Exists r) h.1) (concept_in (basic.Exists (inverse q)) (turned_known q h.0)) (concept_in (basic.Exists (inverse r)) (turned_known r h.1)) m
  concepts_below (RoleApart q r) k h m = absurd (nowhere k m)
  concepts_below (AttrIn u w) k h m = one nodes (concept_node (basic.Domain u)) (concept_node (basic.Domain w)) k (concept_in (basic.Domain u) h.0) (concept_in (basic.Domain w) h.1) m
  concepts_below (AttrApart u w) k h m = absurd (nowhere k m)
  concepts_below (Range u w) k h m = absurd (nowhere k m)
  concepts_below (FunctionalRole q) k h m = absurd (nowhere k m)
  concepts_below (FunctionalAttr u) k h m = absurd (nowhere k m)
  concepts_below (ConceptSome b q d) k h m = one nodes (concept_node b) (concept_node (basic.Exists q)) k (concept_in b h.0) (concept_in (basic.Exists q) h.1) m

  roles_below : (it : Axiom) (k : ℕ × ℕ) → KnowsAxiom theory it → Contains (role_edges it) k → IsIn (2 * count) k
  roles_below (ConceptIn b d) k h m = absurd (nowhere k m)
  roles_below (ConceptApart b d) k h m = absurd (nowhere k m)
  roles_below (RoleIn q r) k h m = two (2 * count) (role_node q) (role_node r) (role_node (inverse q)) (role_node (inverse r)) k
      (role_in q h.0) (role_in r h.1) (role_in (inverse q) (turned_known q h.0)) (role_in (inverse r) (turned_known r h.1)) m
  roles_below (RoleApart q r) k h m = absurd (nowhere k m)
  roles_below (AttrIn u w) k h m = absurd (nowhere k m)
  roles_below (AttrApart u w) k h m = absurd (nowhere k m)
  roles_below (Range u w) k h m = absurd (nowhere k m)
  roles_below (FunctionalRole q) k h m = absurd (nowhere k m)
  roles_below (FunctionalAttr u) k h m = absurd (nowhere k m)
  roles_below (ConceptSome b q d) k h m = absurd (nowhere k m)

  attrs_below : (it : Axiom) (k : ℕ × ℕ) → KnowsAxiom theory it → Contains (attr_edges it) k → IsIn count k
  attrs_below (ConceptIn b d) k h m = absurd (nowhere k m)
  attrs_below (ConceptApart b d) k h m = absurd (nowhere k m)
  attrs_below (RoleIn q r) k h m = absurd (nowhere k m)
  attrs_below (RoleApart q r) k h m = absurd (nowhere k m)
  attrs_below (AttrIn u w) k h m = one count u.0 w.0 k (attr_in u h.0) (attr_in w h.1) m
  attrs_below (AttrApart u w) k h m = absurd (nowhere k m)
  attrs_below (Range u w) k h m = absurd (nowhere k m)
  attrs_below (FunctionalRole q) k h m = absurd (nowhere k m)
  attrs_below (FunctionalAttr u) k h m = absurd (nowhere k m)
  attrs_below (ConceptSome b q d) k h m = absurd (nowhere k m)

  needs_below : (it : Axiom) (k : ℕ × ℕ) → KnowsAxiom theory it → Contains (need_edges it) k → IsIn nodes k
  needs_below (ConceptIn b d) k h m = one nodes (merged_node b) (merged_node d) k (merged_in b h.0) (merged_in d h.1) m
  needs_below (ConceptApart b d) k h m = absurd (nowhere k m)
  needs_below (RoleIn q r) k h m = one nodes (merged_node (basic.Exists q)) (merged_node (basic.Exists r)) k (merged_in (basic.Exists q) h.0) (merged_in (basic.Exists r) h.1) m
  needs_below (RoleApart q r) k h m = absurd (nowhere k m)
  needs_below (AttrIn u w) k h m = one nodes (merged_node (basic.Domain u)) (merged_node (basic.Domain w)) k (merged_in (basic.Domain u) h.0) (merged_in (basic.Domain w) h.1) m
  needs_below (AttrApart u w) k h m = absurd (nowhere k m)
  needs_below (Range u w) k h m = absurd (nowhere k m)
  needs_below (FunctionalRole q) k h m = absurd (nowhere k m)
  needs_below (FunctionalAttr u) k h m = absurd (nowhere k m)
  needs_below (ConceptSome b q d) k h m = two nodes (merged_node b) (merged_node (basic.Exists q)) (merged_node b) (merged_node d) k (merged_in b h.0) (merged_in (basic.Exists q) h.1) (merged_in b h.0) (merged_in d h.2) m

  concept_pairs_in : (it : Axiom) (k : ℕ × ℕ) → KnowsAxiom theory it → Contains (concept_pairs it) k → IsIn nodes k
  concept_pairs_in (ConceptIn b d) k h m = absurd (nowhere k m)
  concept_pairs_in (ConceptApart b d) k h m = one nodes (concept_node b) (concept_node d) k (concept_in b h.0) (concept_in d h.1) m
  concept_pairs_in (RoleIn q r) k h m = absurd (nowhere k m)
  concept_pairs_in (RoleApart q r) k h m = absurd (nowhere k m)
  concept_pairs_in (AttrIn u w) k h m = absurd (nowhere k m)
  concept_pairs_in (AttrApart u w) k h m = absurd (nowhere k m)
  concept_pairs_in (Range u w) k h m = absurd (nowhere k m)
  concept_pairs_in (FunctionalRole q) k h m = absurd (nowhere k m)
  concept_pairs_in (FunctionalAttr u) k h m = absurd (nowhere k m)
  concept_pairs_in (ConceptSome b q d) k h m = absurd (nowhere k m)

  role_pairs_in : (it : Axiom) (k : ℕ × ℕ) → KnowsAxiom theory it → Contains (role_pairs it) k → IsIn (2 * count) k
  role_pairs_in (ConceptIn b d) k h m = absurd (nowhere k m)
  role_pairs_in (ConceptApart b d) k h m = absurd (nowhere k m)
  role_pairs_in (RoleIn q r) k h m = absurd (nowhere k m)
  role_pairs_in (RoleApart q r) k h m = one (2 * count) (role_node q) (role_node r) k (role_in q h.0) (role_in r h.1) m
  role_pairs_in (AttrIn u w) k h m = absurd (nowhere k m)
  role_pairs_in (AttrApart u w) k h m = absurd (nowhere k m)
  role_pairs_in (Range u w) k h m = absurd (nowhere k m)
  role_pairs_in (FunctionalRole q) k h m = absurd (nowhere k m)
  role_pairs_in (FunctionalAttr u) k h m = absurd (nowhere k m)
  role_pairs_in (ConceptSome b q d) k h m = absurd (nowhere k m)

  attr_pairs_in : (it : Axiom) (k : ℕ × ℕ) → KnowsAxiom theory it → Contains (attr_pairs it) k → IsIn count k
  attr_pairs_in (ConceptIn b d) k h m = absurd (nowhere k m)
  attr_pairs_in (ConceptApart b d) k h m = absurd (nowhere k m)
  attr_pairs_in (RoleIn q r) k h m = absurd (nowhere k m)
  attr_pairs_in (RoleApart q r) k h m = absurd (nowhere k m)
  attr_pairs_in (AttrIn u w) k h m = absurd (nowhere k m)
  attr_pairs_in (AttrApart u w) k h m = one count u.0 w.0 k (attr_in u h.0) (attr_in w h.1) m
  attr_pairs_in (Range u w) k h m = absurd (nowhere k m)
  attr_pairs_in (FunctionalRole q) k h m = absurd (nowhere k m)
  attr_pairs_in (FunctionalAttr u) k h m = absurd (nowhere k m)
  attr_pairs_in (ConceptSome b q d) k h m = absurd (nowhere k m)

  below_by : (n : ℕ) (f : Axiom → List (ℕ × ℕ)) → ((it : Axiom) (k : ℕ × ℕ) → KnowsAxiom theory it → Contains (f it) k → IsIn n k) → IsKnown theory → (k : ℕ × ℕ) → Contains (flat_map f theory.axioms) k → IsIn n k
  below_by n f each known k m = let o = out_of_flat_map f theory.axioms k m in each o.0 k (All-contains (KnowsAxiom theory) theory.axioms o.0 known o.1) o.2

  pub concept_edges_below : IsKnown theory → AreBelow nodes (all_edges part.ConceptEdges theory.axioms)
  concept_edges_below known = below_by nodes concept_edges concepts_below known

  pub role_edges_below : IsKnown theory → AreBelow (2 * count) (all_edges part.RoleEdges theory.axioms)
  role_edges_below known = below_by (2 * count) role_edges roles_below known

  pub attr_edges_below : IsKnown theory → AreBelow count (all_edges part.AttrEdges theory.axioms)
  attr_edges_below known = below_by count attr_edges attrs_below known

  pub need_edges_below : IsKnown theory → AreBelow nodes (all_edges part.NeedEdges theory.axioms)
  need_edges_below known = below_by nodes need_edges needs_below known

  pub concept_pairs_below : IsKnown theory → AreBelow nodes (all_pairs disjoint.Concepts theory.axioms)
  concept_pairs_below known = below_by nodes concept_pairs concept_pairs_in known

  pub role_pairs_below : IsKnown theory → AreBelow (2 * count) (all_pairs disjoint.Roles theory.axioms)
  role_pairs_below known = below_by (2 * count) role_pairs role_pairs_in known

  pub attr_pairs_below : IsKnown theory → AreBelow count (all_pairs disjoint.Attrs theory.axioms)
  attr_pairs_below known = below_by count attr_pairs attr_pairs_in known

  -- who leads to something known is known, and so is who is contradictory
  module _ (known : IsKnown theory) where
    knows : (it : Axiom) → Contains theory.axioms it → KnowsAxiom theory it
    knows it m = All-contains (KnowsAxiom theory) theory.axioms it known m

    turned_back : (q : RoleSide) → KnowsRole theory (inverse q) → KnowsRole theory q
    turned_back (Direct p) h = h
    turned_back (Inverse p) h = h

    step_known : (b d : Basic) → ConceptStep theory.axioms b d → KnowsConcept theory b
    step_known b d (reach.concept v w m) = (knows (ConceptIn b d) m).0
    step_known b d (reach.role q r (inl m)) = (knows (RoleIn q r) m).0
    step_known b d (reach.role q r (inr m)) = turned_back q (knows (RoleIn (inverse q) (inverse r)) m).0
    step_known b d (reach.attr u w m) = (knows (AttrIn u w) m).0
    step_known b d (reach.some_in v w q m) = (knows (ConceptSome b q w) m).0

    concept_back : (b d : Basic) → ConceptReaches theory.axioms b d → KnowsConcept theory d → KnowsConcept theory b
    concept_back b d (reach.itself z) h = h
    concept_back b d (reach.further z w u r s) h = concept_back b w r (step_known w d s)

    role_back : (q r : RoleSide) → RoleReaches theory.axioms q r → KnowsRole theory r → KnowsRole theory q
    role_back q r (c.itself z) h = h
    role_back q r (c.further z w u p (inl m)) h = role_back q w p (knows (RoleIn w r) m).0
    role_back q r (c.further z w u p (inr m)) h = role_back q w p (turned_back w (knows (RoleIn (inverse w) (inverse r)) m).0)

    attr_back : (u w : Term) → AttrReaches theory.axioms u w → IsTerm theory w kind.Attr → IsTerm theory u kind.Attr
    attr_back u w (c.itself z) h = h
    attr_back u w (c.further z v y p m) h = attr_back u v p (knows (AttrIn v w) m).0

    pub contradictory_known : (b : Basic) → IsContradictory theory.axioms b → KnowsConcept theory b
    contradictory_known b (e.concepts z d g m h i) = concept_back b d h (knows (ConceptApart d g) m).0
    contradictory_known b (e.roles q r s m h i) = role_back q r h (knows (RoleApart r s) m).0
    contradictory_known b (e.attrs u v w m h i) = attr_back u v h (knows (AttrApart v w) m).0
    contradictory_known b (e.ranges u v w d g m n ne h i) = attr_back u v h (knows (Range v d) m)
    contradictory_known b (e.fillers z f d g q m n h i) = (knows (ConceptSome b q f) m).0
