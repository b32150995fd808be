-- Paths over the axioms' edges are what inclusions reach.
use Rattle.std.proofs.Common.{◌≡◌, ℕ, List, [], ◌∷◌, refl, sym, ◌∙◌, ap, subst, inl, inr, ⊎_elim, arith}
use Rattle.std.specs.Prelude.{Contains, ◌↔◌}
use Rattle.std.specs.List.{flat_map}
use Rattle.std.proofs.lemmas.List.Elements.{Contains-append_left, Contains-append_right, Contains-append_cases}
use Rattle.dl_base.specs.declared.axioms.Axiom.{Axiom}
use Rattle.dl_base.specs.declared.axioms.Axiom.TheVariants.{ConceptIn, ConceptApart, RoleIn, RoleApart, AttrIn, AttrApart, Range, FunctionalRole, FunctionalAttr, ConceptSome}
use Rattle.dl_base.specs.declared.terms.Term.{Term}
use Rattle.dl_base.specs.declared.terms.RoleSide.{RoleSide}
use Rattle.dl_base.specs.declared.terms.RoleSide.TheVariants.{Direct, Inverse}
use Rattle.dl_base.specs.declared.terms.Basic.{Basic}
use Rattle.dl_base.specs.declared.terms.Basic.TheVariants as basic
use Rattle.dl_base.specs.Derivation.{RoleStep, inverse}
use Rattle.dl_base.specs.Clash as c
use Rattle.dl_base.specs.Clash.{RoleReaches, AttrReaches}
use Rattle.dl_base.specs.Reach as reach
use Rattle.dl_base.specs.Reach.{ConceptStep, ConceptReaches}
use Rattle.dl_base.proofs.Members.{here, there, alone, nowhere, cons_cases}
use Rattle.dl_base.proofs.ClosureLaws.{inverse_inverse}
use Rattle.dl_laws.specs.Emptiness as e
use Rattle.dl_laws.specs.Emptiness.{NeedStep, Needs}
use Rattle.dl_laws.specs.Paths as graph
use Rattle.dl_laws.specs.Paths.{Path}
use Rattle.dl_laws.specs.Edges.{concept_node, merged_node, role_node, concept_edges, role_edges, attr_edges, need_edges}

pub term_is : (b c : Term) → b.0 ≡ c.0 → b ≡ c
term_is b c h = ap (λ (n : ℕ). record { 0 = n }) h

-- different concepts have different nodes
pub concept_is : (b c : Basic) → concept_node b ≡ concept_node c → b ≡ c
concept_is (basic.Class t) (basic.Class s) h = ap basic.Class (term_is t s (omega (arith, h)))
concept_is (basic.Class t) (basic.Exists (Direct s)) h = absurd (omega (arith, h))
concept_is (basic.Class t) (basic.Exists (Inverse s)) h = absurd (omega (arith, h))
concept_is (basic.Class t) (basic.Domain s) h = absurd (omega (arith, h))
concept_is (basic.Exists (Direct t)) (basic.Class s) h = absurd (omega (arith, h))
concept_is (basic.Exists (Direct t)) (basic.Exists (Direct s)) h = ap (λ (z : Term). basic.Exists (Direct z)) (term_is t s (omega (arith, h)))
concept_is (basic.Exists (Direct t)) (basic.Exists (Inverse s)) h = absurd (omega (arith, h))
concept_is (basic.Exists (Direct t)) (basic.Domain s) h = absurd (omega (arith, h))
concept_is (basic.Exists (Inverse t)) (basic.Class s) h = absurd (omega (arith, h))
concept_is (basic.Exists (Inverse t)) (basic.Exists (Direct s)) h = absurd (omega (arith, h))
concept_is (basic.Exists (Inverse t)) (basic.Exists (Inverse s)) h = ap (λ (z : Term). basic.Exists (Inverse z)) (term_is t s (omega (arith, h)))
concept_is (basic.Exists (Inverse t)) (basic.Domain s) h = absurd (omega (arith, h))
concept_is (basic.Domain t) (basic.Class s) h = absurd (omega (arith, h))
concept_is (basic.Domain t) (basic.Exists (Direct s)) h = absurd (omega (arith, h))
concept_is (basic.Domain t) (basic.Exists (Inverse s)) h = absurd (omega (arith, h))
concept_is (basic.Domain t) (basic.Domain s) h = ap basic.Domain (term_is t s (omega (arith, h)))

pub role_is : (q r : RoleSide) → role_node q ≡ role_node r → q ≡ r
role_is (Direct t) (Direct s) h = ap Direct (term_is t s (omega (arith, h)))
role_is (Direct t) (Inverse s) h = absurd (omega (arith, h))
role_is (Inverse t) (Direct s) h = absurd (omega (arith, h))
role_is (Inverse t) (Inverse s) h = ap Inverse (term_is t s (omega (arith, h)))

pub in_flat_map : {X Y : Type 0} (f : X → List Y) (xs : List X) (x : X) (y : Y) → Contains xs x → Contains (f x) y → Contains (flat_map f xs) y
in_flat_map f [] x y m h = absurd (nowhere x m)
in_flat_map f (z ∷ xs) x y m h = ⊎_elim
    (λ k. Contains-append_left (f z) (flat_map f xs) y (subst (λ w. Contains (f w) y) (sym k) h))
    (λ k. Contains-append_right (f z) (flat_map f xs) y (in_flat_map f xs x y k h))
    (cons_cases z xs x m)

pub out_of_flat_map : {X Y : Type 0} (f : X → List Y) (xs : List X) (y : Y) → Contains (flat_map f xs) y → (x : X) × Contains xs x × Contains (f x) y
out_of_flat_map f [] y h = absurd (nowhere y h)
out_of_flat_map f (x ∷ xs) y h = ⊎_elim (λ k. (x, here x xs, k)) (λ k. let r = out_of_flat_map f xs y k in (r.0, there x xs r.0 r.1, r.2)) (Contains-append_cases (f x) (flat_map f xs) y h)

first_of : (x y : ℕ × ℕ) → Contains (x ∷ y ∷ []) x
first_of x y = here x (y ∷ [])

second_of : (x y : ℕ × ℕ) → Contains (x ∷ y ∷ []) y
second_of x y = there x (y ∷ []) y (here y [])

-- an edge k stands for a step of P from one thing to another
abbrev pub IsEdge : {X : Type 0} → (X → ℕ) → (X → X → Type 0) → ℕ × ℕ → Type 0
IsEdge {X} node P k = (b : X) × (d : X) × ((node b, node d) ≡ k) × P b d

pub one_edge : {X : Type 0} (node : X → ℕ) (P : X → X → Type 0) (b d : X) (k : ℕ × ℕ) → P b d → Contains ((node b, node d) ∷ []) k → IsEdge node P k
one_edge node P b d k p m = (b, d, alone (node b, node d) k m, p)

pub two_edges : {X : Type 0} (node : X → ℕ) (P : X → X → Type 0) (b d v w : X) (k : ℕ × ℕ) → P b d → P v w → Contains ((node b, node d) ∷ (node v, node w) ∷ []) k → IsEdge node P k
two_edges node P b d v w k p q m = ⊎_elim (λ i. (b, d, i, p)) (λ n. one_edge node P v w k q n) (cons_cases (node b, node d) ((node v, node w) ∷ []) k m)

module _ (axioms : List Axiom) where
  turned_step : (q r : RoleSide) → Contains axioms (RoleIn q r) → RoleStep axioms (inverse q) (inverse r)
  turned_step (Direct p) (Direct s) h = inr h
  turned_step (Direct p) (Inverse s) h = inr h
  turned_step (Inverse p) (Direct s) h = inr h
  turned_step (Inverse p) (Inverse s) h = inr h

  edge_concept : (it : Axiom) (k : ℕ × ℕ) → Contains axioms it → Contains (concept_edges it) k → IsEdge concept_node (ConceptStep axioms) k
  edge_concept (ConceptIn b d) k m h = one_edge concept_node (ConceptStep axioms) b d k (reach.concept b d m) h
  edge_concept (ConceptApart b d) k m h = absurd (nowhere k h)
  edge_concept (RoleIn q r) k m h = two_edges concept_node (ConceptStep axioms) (basic.Exists q) (basic.Exists r) (basic.Exists (inverse q)) (basic.Exists (inverse r)) k (reach.role q r (inl m)) (reach.role (inverse q) (inverse r) (turned_step q r m)) h
  edge_concept (RoleApart q r) k m h = absurd (nowhere k h)
  edge_concept (AttrIn u w) k m h = one_edge concept_node (ConceptStep axioms) (basic.Domain u) (basic.Domain w) k (reach.attr u w m) h
  edge_concept (AttrApart u w) k m h = absurd (nowhere k h)
  edge_concept (Range u w) k m h = absurd (nowhere k h)
  edge_concept (FunctionalRole q) k m h = absurd (nowhere k h)
  edge_concept (FunctionalAttr u) k m h = absurd (nowhere k h)
  edge_concept (ConceptSome b q d) k m h = one_edge concept_node (ConceptStep axioms) b (basic.Exists q) k (reach.some_in b d q m) h

  edge_role : (it : Axiom) (k : ℕ × ℕ) → Contains axioms it → Contains (role_edges it) k → IsEdge role_node (RoleStep axioms) k
  edge_role (ConceptIn b d) k m h = absurd (nowhere k h)
  edge_role (ConceptApart b d) k m h = absurd (nowhere k h)
  edge_role (RoleIn q r) k m h = two_edges role_node (RoleStep axioms) q r (inverse q) (inverse r) k (inl m) (turned_step q r m) h
  edge_role (RoleApart q r) k m h = absurd (nowhere k h)
  edge_role (AttrIn u w) k m h = absurd (nowhere k h)
  edge_role (AttrApart u w) k m h = absurd (nowhere k h)
  edge_role (Range u w) k m h = absurd (nowhere k h)
  edge_role (FunctionalRole q) k m h = absurd (nowhere k h)
  edge_role (FunctionalAttr u) k m h = absurd (nowhere k h)
  edge_role (ConceptSome b q d) k m h = absurd (nowhere k h)

  abbrev pub AttrStep : Term → Term → Type 0
  AttrStep u w = Contains axioms (AttrIn u w)

  abbrev attr_node : Term → ℕ
  attr_node u = u.0

  edge_attr : (it : Axiom) (k : ℕ × ℕ) → Contains axioms it → Contains (attr_edges it) k → IsEdge attr_node AttrStep k
  edge_attr (ConceptIn b d) k m h = absurd (nowhere k h)
  edge_attr (ConceptApart b d) k m h = absurd (nowhere k h)
  edge_attr (RoleIn q r) k m h = absurd (nowhere k h)
  edge_attr (RoleApart q r) k m h = absurd (nowhere k h)
  edge_attr (AttrIn u w) k m h = one_edge attr_node AttrStep u w k m h
  edge_attr (AttrApart u w) k m h = absurd (nowhere k h)
  edge_attr (Range u w) k m h = absurd (nowhere k h)
  edge_attr (FunctionalRole q) k m h = absurd (nowhere k h)
  edge_attr (FunctionalAttr u) k m h = absurd (nowhere k h)
  edge_attr (ConceptSome b q d) k m h = absurd (nowhere k h)

  edge_need : (it : Axiom) (k : ℕ × ℕ) → Contains axioms it → Contains (need_edges it) k → IsEdge merged_node (NeedStep axioms) k
  edge_need (ConceptIn b d) k m h = one_edge merged_node (NeedStep axioms) b d k (e.same b d (reach.concept b d m)) h
  edge_need (ConceptApart b d) k m h = absurd (nowhere k h)
  edge_need (RoleIn q r) k m h = one_edge merged_node (NeedStep axioms) (basic.Exists q) (basic.Exists r) k (e.same (basic.Exists q) (basic.Exists r) (reach.role q r (inl m))) h
  edge_need (RoleApart q r) k m h = absurd (nowhere k h)
  edge_need (AttrIn u w) k m h = one_edge merged_node (NeedStep axioms) (basic.Domain u) (basic.Domain w) k (e.same (basic.Domain u) (basic.Domain w) (reach.attr u w m)) h
  edge_need (AttrApart u w) k m h = absurd (nowhere k h)
  edge_need (Range u w) k m h = absurd (nowhere k h)
  edge_need (FunctionalRole q) k m h = absurd (nowhere k h)
  edge_need (FunctionalAttr u) k m h = absurd (nowhere k h)
  edge_need (ConceptSome b q d) k m h = two_edges merged_node (NeedStep axioms) b (basic.Exists q) b d k (e.same b (basic.Exists q) (reach.some_in b d q m)) (e.filler b d q m) h

  abbrev edges_by : (Axiom → List (ℕ × ℕ)) → List (ℕ × ℕ)
  edges_by f = flat_map f axioms

  -- concepts
  concepts_from : (i j : ℕ) → Path (edges_by concept_edges) i j → (b d : Basic) → concept_node b ≡ i → concept_node d ≡ j → ConceptReaches axioms b d
  concepts_from i j (graph.itself z) b d x y = subst (ConceptReaches axioms b) (concept_is b d (x ∙ sym y)) (reach.itself b)
  concepts_from i j (graph.further z w u r m) b d x y =
      let o = out_of_flat_map concept_edges axioms (w, j) m in
      let k = edge_concept o.0 (w, j) o.1 o.2 in
      let same : k.1 ≡ d = concept_is k.1 d (ap (λ (z : ℕ × ℕ). z.1) k.2 ∙ sym y) in
      subst (ConceptReaches axioms b) same (reach.further b k.0 k.1 (concepts_from i w r b k.0 x (ap (λ (z : ℕ × ℕ). z.0) k.2)) k.3)

  step_edge : (b d : Basic) → ConceptStep axioms b d → Contains (edges_by concept_edges) (concept_node b, concept_node d)
  step_edge b d (reach.concept v w m) = in_flat_map concept_edges axioms (ConceptIn b d) (concept_node b, concept_node d) m (here (concept_node b, concept_node d) [])
  step_edge b d (reach.role q r (inl m)) = in_flat_map concept_edges axioms (RoleIn q r) (concept_node b, concept_node d) m (first_of (concept_node (basic.Exists q), concept_node (basic.Exists r)) (concept_node (basic.Exists (inverse q)), concept_node (basic.Exists (inverse r))))
  step_edge b d (reach.role q r (inr m)) =
      let back : ℕ × ℕ → Type 0 = λ z. Contains (edges_by concept_edges) z in
      subst (λ (z : RoleSide). Contains (edges_by concept_edges) (concept_node (basic.Exists z), concept_node (basic.Exists r))) (inverse_inverse q)
      (subst (λ (z : RoleSide). Contains (edges_by concept_edges) (concept_node (basic.Exists (inverse (inverse q))), concept_node (basic.Exists z))) (inverse_inverse r)
      (in_flat_map concept_edges axioms (RoleIn (inverse q) (inverse r)) (concept_node (basic.Exists (inverse (inverse q))), concept_node (basic.Exists (inverse (inverse r)))) m
      (second_of (concept_node (basic.Exists (inverse q)), concept_node (basic.Exists (inverse r))) (concept_node (basic.Exists (inverse (inverse q))), concept_node (basic.Exists (inverse (inverse r)))))))
  step_edge b d (reach.attr u w m) = in_flat_map concept_edges axioms (AttrIn u w) (concept_node (basic.Domain u), concept_node (basic.Domain w)) m (here (concept_node (basic.Domain u), concept_node (basic.Domain w)) [])
  step_edge b d (reach.some_in v w q m) = in_flat_map concept_edges axioms (ConceptSome b q w) (concept_node b, concept_node (basic.Exists q)) m (here (concept_node b, concept_node (basic.Exists q)) [])

  concepts_to : (b d : Basic) → ConceptReaches axioms b d → Path (edges_by concept_edges) (concept_node b) (concept_node d)
  concepts_to b d (reach.itself z) = graph.itself (concept_node b)
  concepts_to b d (reach.further z w u r s) = graph.further (concept_node b) (concept_node w) (concept_node d) (concepts_to b w r) (step_edge w d s)

  pub concept_paths : (b d : Basic) → Path (edges_by concept_edges) (concept_node b) (concept_node d) ↔ ConceptReaches axioms b d
  concept_paths b d = (λ h. concepts_from (concept_node b) (concept_node d) h b d refl refl, concepts_to b d)

  -- roles
  roles_from : (i j : ℕ) → Path (edges_by role_edges) i j → (b d : RoleSide) → role_node b ≡ i → role_node d ≡ j → RoleReaches axioms b d
  roles_from i j (graph.itself z) b d x y = subst (RoleReaches axioms b) (role_is b d (x ∙ sym y)) (c.itself b)
  roles_from i j (graph.further z w u r m) b d x y =
      let o = out_of_flat_map role_edges axioms (w, j) m in
      let k = edge_role o.0 (w, j) o.1 o.2 in
      let same : k.1 ≡ d = role_is k.1 d (ap (λ (z : ℕ × ℕ). z.1) k.2 ∙ sym y) in
      subst (RoleReaches axioms b) same (c.further b k.0 k.1 (roles_from i w r b k.0 x (ap (λ (z : ℕ × ℕ). z.0) k.2)) k.3)

  role_edge : (q r : RoleSide) → RoleStep axioms q r → Contains (edges_by role_edges) (role_node q, role_node r)
  role_edge q r (inl m) = in_flat_map role_edges axioms (RoleIn q r) (role_node q, role_node r) m (first_of (role_node q, role_node r) (role_node (inverse q), role_node (inverse r)))
  role_edge q r (inr m) =
      subst (λ (z : RoleSide). Contains (edges_by role_edges) (role_node z, role_node r)) (inverse_inverse q)
      (subst (λ (z : RoleSide). Contains (edges_by role_edges) (role_node (inverse (inverse q)), role_node z)) (inverse_inverse r)
      (in_flat_map role_edges axioms (RoleIn (inverse q) (inverse r)) (role_node (inverse (inverse q)), role_node (inverse (inverse r))) m
      (second_of (role_node (inverse q), role_node (inverse r)) (role_node (inverse (inverse q)), role_node (inverse (inverse r))))))

  roles_to : (b d : RoleSide) → RoleReaches axioms b d → Path (edges_by role_edges) (role_node b) (role_node d)
  roles_to b d (c.itself z) = graph.itself (role_node b)
  roles_to b d (c.further z w u r s) = graph.further (role_node b) (role_node w) (role_node d) (roles_to b w r) (role_edge w d s)

  pub role_paths : (b d : RoleSide) → Path (edges_by role_edges) (role_node b) (role_node d) ↔ RoleReaches axioms b d
  role_paths b d = (λ h. roles_from (role_node b) (role_node d) h b d refl refl, roles_to b d)

  -- attributes
  attrs_from : (i j : ℕ) → Path (edges_by attr_edges) i j → (b d : Term) → b.0 ≡ i → d.0 ≡ j → AttrReaches axioms b d
  attrs_from i j (graph.itself z) b d x y = subst (AttrReaches axioms b) (term_is b d (x ∙ sym y)) (c.itself b)
  attrs_from i j (graph.further z w u r m) b d x y =
      let o = out_of_flat_map attr_edges axioms (w, j) m in
      let k = edge_attr o.0 (w, j) o.1 o.2 in
      let same : k.1 ≡ d = term_is k.1 d (ap (λ (z : ℕ × ℕ). z.1) k.2 ∙ sym y) in
      subst (AttrReaches axioms b) same (c.further b k.0 k.1 (attrs_from i w r b k.0 x (ap (λ (z : ℕ × ℕ). z.0) k.2)) k.3)

  attrs_to : (b d : Term) → AttrReaches axioms b d → Path (edges_by attr_edges) b.0 d.0
  attrs_to b d (c.itself z) = graph.itself b.0
  attrs_to b d (c.further z w u r m) = graph.further b.0 w.0 d.0 (attrs_to b w r) (in_flat_map attr_edges axioms (AttrIn w d) (w.0, d.0) m (here (w.0, d.0) []))

  pub attr_paths : (b d : Term) → Path (edges_by attr_edges) b.0 d.0 ↔ AttrReaches axioms b d
  attr_paths b d = (λ h. attrs_from b.0 d.0 h b d refl refl, attrs_to b d)

  -- needs
  pub needs_trans : (b d f : Basic) → Needs axioms b d → Needs axioms d f → Needs axioms b f
  needs_trans b d f n (e.itself z) = n
  needs_trans b d f n (e.further x y z h s) = e.further b y f (needs_trans b d y n h) s

  both_sides : (q r : RoleSide) → r ≡ inverse q → Needs axioms (basic.Exists q) (basic.Exists r)
  both_sides q r i = e.further (basic.Exists q) (basic.Exists q) (basic.Exists r) (e.itself (basic.Exists q)) (e.partner q r i)

  is_needed : (b d : Basic) → b ≡ d → Needs axioms b d
  is_needed b d i = subst (Needs axioms b) i (e.itself b)

  pub merged_needs : (b d : Basic) → merged_node b ≡ merged_node d → Needs axioms b d
  merged_needs (basic.Class t) (basic.Class s) h = is_needed (basic.Class t) (basic.Class s) (ap basic.Class (term_is t s (omega (arith, h))))
  merged_needs (basic.Class t) (basic.Exists (Direct s)) h = absurd (omega (arith, h))
  merged_needs (basic.Class t) (basic.Exists (Inverse s)) h = absurd (omega (arith, h))
  merged_needs (basic.Class t) (basic.Domain s) h = absurd (omega (arith, h))
  merged_needs (basic.Exists (Direct t)) (basic.Class s) h = absurd (omega (arith, h))
  merged_needs (basic.Exists (Direct t)) (basic.Exists (Direct s)) h = is_needed (basic.Exists (Direct t)) (basic.Exists (Direct s)) (ap (λ (z : Term). basic.Exists (Direct z)) (term_is t s (omega (arith, h))))
  merged_needs (basic.Exists (Direct t)) (basic.Exists (Inverse s)) h = both_sides (Direct t) (Inverse s) (ap Inverse (sym (term_is t s (omega (arith, h)))))
  merged_needs (basic.Exists (Direct t)) (basic.Domain s) h = absurd (omega (arith, h))
  merged_needs (basic.Exists (Inverse t)) (basic.Class s) h = absurd (omega (arith, h))
  merged_needs (basic.Exists (Inverse t)) (basic.Exists (Direct s)) h = both_sides (Inverse t) (Direct s) (ap Direct (sym (term_is t s (omega (arith, h)))))
  merged_needs (basic.Exists (Inverse t)) (basic.Exists (Inverse s)) h = is_needed (basic.Exists (Inverse t)) (basic.Exists (Inverse s)) (ap (λ (z : Term). basic.Exists (Inverse z)) (term_is t s (omega (arith, h))))
  merged_needs (basic.Exists (Inverse t)) (basic.Domain s) h = absurd (omega (arith, h))
  merged_needs (basic.Domain t) (basic.Class s) h = absurd (omega (arith, h))
  merged_needs (basic.Domain t) (basic.Exists (Direct s)) h = absurd (omega (arith, h))
  merged_needs (basic.Domain t) (basic.Exists (Inverse s)) h = absurd (omega (arith, h))
  merged_needs (basic.Domain t) (basic.Domain s) h = is_needed (basic.Domain t) (basic.Domain s) (ap basic.Domain (term_is t s (omega (arith, h))))

  needs_from : (i j : ℕ) → Path (edges_by need_edges) i j → (b d : Basic) → merged_node b ≡ i → merged_node d ≡ j → Needs axioms b d
  needs_from i j (graph.itself z) b d x y = merged_needs b d (x ∙ sym y)
  needs_from i j (graph.further z w u r m) b d x y =
      let o = out_of_flat_map need_edges axioms (w, j) m in
      let k = edge_need o.0 (w, j) o.1 o.2 in
      let last : Needs axioms k.1 d = merged_needs k.1 d (ap (λ (z : ℕ × ℕ). z.1) k.2 ∙ sym y) in
      needs_trans b k.1 d (e.further b k.0 k.1 (needs_from i w r b k.0 x (ap (λ (z : ℕ × ℕ). z.0) k.2)) k.3) last

  same_node : (q : RoleSide) → merged_node (basic.Exists (inverse q)) ≡ merged_node (basic.Exists q)
  same_node (Direct t) = refl
  same_node (Inverse t) = refl

  abbrev NeedPath : ℕ → Basic → Basic → Type 0
  NeedPath i b d = Path (edges_by need_edges) i (merged_node d)

  on : (i : ℕ) (b d : Basic) → Path (edges_by need_edges) i (merged_node b) → Contains (edges_by need_edges) (merged_node b, merged_node d) → Path (edges_by need_edges) i (merged_node d)
  on i b d p m = graph.further i (merged_node b) (merged_node d) p m

  role_need : (q r : RoleSide) → RoleStep axioms q r → Contains (edges_by need_edges) (merged_node (basic.Exists q), merged_node (basic.Exists r))
  role_need q r (inl m) = in_flat_map need_edges axioms (RoleIn q r) (merged_node (basic.Exists q), merged_node (basic.Exists r)) m (here (merged_node (basic.Exists q), merged_node (basic.Exists r)) [])
  role_need q r (inr m) =
      subst (λ (z : ℕ). Contains (edges_by need_edges) (z, merged_node (basic.Exists r))) (same_node q)
      (subst (λ (z : ℕ). Contains (edges_by need_edges) (merged_node (basic.Exists (inverse q)), z)) (same_node r)
      (in_flat_map need_edges axioms (RoleIn (inverse q) (inverse r)) (merged_node (basic.Exists (inverse q)), merged_node (basic.Exists (inverse r))) m (here (merged_node (basic.Exists (inverse q)), merged_node (basic.Exists (inverse r))) [])))

  need_on : (i : ℕ) (b d : Basic) → NeedStep axioms b d → Path (edges_by need_edges) i (merged_node b) → Path (edges_by need_edges) i (merged_node d)
  need_on i b d (e.same v w (reach.concept x y m)) p = on i b d p (in_flat_map need_edges axioms (ConceptIn b d) (merged_node b, merged_node d) m (here (merged_node b, merged_node d) []))
  need_on i b d (e.same v w (reach.role q r m)) p = on i (basic.Exists q) (basic.Exists r) p (role_need q r m)
  need_on i b d (e.same v w (reach.attr x y m)) p = on i (basic.Domain x) (basic.Domain y) p (in_flat_map need_edges axioms (AttrIn x y) (merged_node (basic.Domain x), merged_node (basic.Domain y)) m (here (merged_node (basic.Domain x), merged_node (basic.Domain y)) []))
  need_on i b d (e.same v w (reach.some_in x y q m)) p = on i b (basic.Exists q) p (in_flat_map need_edges axioms (ConceptSome b q y) (merged_node b, merged_node (basic.Exists q)) m (first_of (merged_node b, merged_node (basic.Exists q)) (merged_node b, merged_node y)))
  need_on i b d (e.partner q r j) p = subst (Path (edges_by need_edges) i) (sym (same_node q) ∙ ap (λ (z : RoleSide). merged_node (basic.Exists z)) (sym j)) p
  need_on i b d (e.filler v w q m) p = on i b d p (in_flat_map need_edges axioms (ConceptSome b q d) (merged_node b, merged_node d) m (second_of (merged_node b, merged_node (basic.Exists q)) (merged_node b, merged_node d)))

  needs_to : (b d : Basic) → Needs axioms b d → Path (edges_by need_edges) (merged_node b) (merged_node d)
  needs_to b d (e.itself z) = graph.itself (merged_node b)
  needs_to b d (e.further x y z n s) = need_on (merged_node b) y d s (needs_to b y n)

  pub need_paths : (b d : Basic) → Path (edges_by need_edges) (merged_node b) (merged_node d) ↔ Needs axioms b d
  need_paths b d = (λ h. needs_from (merged_node b) (merged_node d) h b d refl refl, needs_to b d)
