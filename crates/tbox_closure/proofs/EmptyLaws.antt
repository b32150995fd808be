-- The nodes that are noted, and emptiness by them.
use Rattle.std.proofs.Common.{◌≡◌, ℕ, ◌<◌, ◌+◌, length, List, [], ◌∷◌, ◌++◌, take, get_or, refl, sym, ◌∙◌, subst, inl, inr, ◌⊎◌, ⊎_elim, arith}
use Rattle.std.specs.Prelude.{Contains, ◌↔◌}
use Rattle.std.proofs.lemmas.Bool.{cases_lt}
use Rattle.std.proofs.lemmas.List.Elements.{Contains-append_left, Contains-append_right, Contains-push_cases}
use Rattle.dl_base.specs.declared.axioms.Axiom.{Axiom}
use Rattle.dl_base.specs.declared.axioms.Axiom.TheVariants.{ConceptApart, RoleApart, AttrApart, ConceptSome}
use Rattle.dl_base.specs.declared.terms.Term.{Term}
use Rattle.dl_base.specs.declared.terms.RoleSide.{RoleSide}
use Rattle.dl_base.specs.declared.terms.RoleSide.TheVariants.{Direct, Inverse}
use Rattle.dl_base.specs.declared.terms.Basic.{Basic}
use Rattle.dl_base.specs.declared.terms.Basic.TheVariants as basic
use Rattle.dl_base.specs.Derivation.{inverse}
use Rattle.dl_base.specs.Ontologies.{Theory, IsKnown}
use Rattle.dl_base.proofs.Members.{here, nowhere}
use Rattle.dl_base.specs.Reach.{ConceptReaches}
use Rattle.dl_laws.specs.Edges.{merged_node}
use Rattle.dl_laws.specs.Emptiness as e
use Rattle.dl_laws.specs.Emptiness.{IsContradictory, IsUnsatisfiable, IsFilled}
use Rattle.dl_laws.specs.Meeting.{AreDisjointConcepts}
use Rattle.dl_laws.specs.Paths.{Path}
use Rattle.dl_laws.proofs.EdgeLaws.{need_paths, term_is}
use Rattle.tbox_closure.specs.declared.edges.Part.TheVariants as part
use Rattle.tbox_closure.specs.Edges.{all_edges}
use Rattle.tbox_closure.specs.Graphs.{HaveSamePaths, Gathers}
use Rattle.tbox_closure.specs.Marks.{IsMarked, row}
use Rattle.tbox_closure.specs.Tables.{term_number, IsContradictoryByKind, IsContradictoryItself, AreDisjointAmong, IsContradictoryPartner, IsItselfAt, IsItselfOf, IsItselfNode, IsPartnerNode, HasPartnerNode, IsNoted, Notes, AreEmptyRows}
use Rattle.tbox_closure.proofs.LoopLaws.{take_on}
use Rattle.tbox_closure.proofs.KnownRange.{contradictory_known, number_in}

pub notes_same : (Q : ℕ → Type 0) (rows : List (List ℕ)) → ((k : ℕ) → ¬ Q k) → Notes Q rows rows
notes_same Q rows none k = (λ m. inl m, λ s. ⊎_elim (λ h. h) (λ h. absurd (none k h)) s)

-- one mark more, where Q holds of its node alone
pub notes_one : (Q : ℕ → Type 0) (at : ℕ) (old new : List (List ℕ)) → Q at → ((k : ℕ) → Q k → k ≡ at)
    → ((i k : ℕ) → IsMarked (row new i) k ↔ (IsMarked (row old i) k ⊎ ((i ≡ at) × (k ≡ 0)))) → Notes Q old new
notes_one Q at old new q one step k = (
  λ m. ⊎_elim (λ h. inl h) (λ h. inr (subst Q (sym h.0) q)) ((step k 0).0 m),
  λ s. (step k 0).1 (⊎_elim (λ h. inl h) (λ h. inr (one k h, refl)) s),
)

notes_both : (P Q : ℕ → Type 0) (a b c : List (List ℕ)) → Notes P a b → Notes Q b c → Notes (λ k. P k ⊎ Q k) a c
notes_both P Q a b c one two k = (
  λ m. ⊎_elim (λ x. ⊎_elim (λ y. inl y) (λ y. inr (inl y)) ((one k).0 x)) (λ x. inr (inr x)) ((two k).0 m),
  λ s. (two k).1 (⊎_elim (λ x. inl ((one k).1 (inl x))) (λ t. ⊎_elim (λ x. inl ((one k).1 (inr x))) (λ x. inr x) t) s),
)

notes_as : (P Q : ℕ → Type 0) (a b : List (List ℕ)) → ((k : ℕ) → P k ↔ Q k) → Notes P a b → Notes Q a b
notes_as P Q a b same h k = (
  λ m. ⊎_elim (λ x. inl x) (λ x. inr ((same k).0 x)) ((h k).0 m),
  λ s. (h k).1 (⊎_elim (λ x. inl x) (λ x. inr ((same k).1 x)) s),
)

module _ (axioms : List Axiom) where
  abbrev At : Basic → ℕ → Type 0
  At c k = IsItselfAt axioms c k

  abbrev Four : Term → ℕ → Type 0
  Four t k = ((At (basic.Class t) k ⊎ At (basic.Exists (Direct t)) k) ⊎ At (basic.Exists (Inverse t)) k) ⊎ At (basic.Domain t) k

  of_term : (t : Term) (c : Basic) → term_number c ≡ t.0 → (k : ℕ) → At c k → Four t k
  of_term t (basic.Class s) i k h = inl (inl (inl (subst (λ (z : Term). At (basic.Class z) k) (term_is s t i) h)))
  of_term t (basic.Exists (Direct s)) i k h = inl (inl (inr (subst (λ (z : Term). At (basic.Exists (Direct z)) k) (term_is s t i) h)))
  of_term t (basic.Exists (Inverse s)) i k h = inl (inr (subst (λ (z : Term). At (basic.Exists (Inverse z)) k) (term_is s t i) h))
  of_term t (basic.Domain s) i k h = inr (subst (λ (z : Term). At (basic.Domain z) k) (term_is s t i) h)

  to_term : (t : Term) (k : ℕ) → Four t k → IsItselfOf axioms t.0 k
  to_term t k (inl (inl (inl h))) = (basic.Class t, refl, h)
  to_term t k (inl (inl (inr h))) = (basic.Exists (Direct t), refl, h)
  to_term t k (inl (inr h)) = (basic.Exists (Inverse t), refl, h)
  to_term t k (inr h) = (basic.Domain t, refl, h)

  -- the four concepts of a term
  pub notes_four : (t : Term) (a b c d f : List (List ℕ)) → Notes (At (basic.Class t)) a b → Notes (At (basic.Exists (Direct t))) b c
      → Notes (At (basic.Exists (Inverse t))) c d → Notes (At (basic.Domain t)) d f → Notes (IsItselfOf axioms t.0) a f
  notes_four t a b c d f one two three four =
      notes_as (Four t) (IsItselfOf axioms t.0) a f (λ k. (to_term t k, λ (x, i, h). of_term t x i k h))
      (notes_both (λ k. (At (basic.Class t) k ⊎ At (basic.Exists (Direct t)) k) ⊎ At (basic.Exists (Inverse t)) k) (At (basic.Domain t)) a d f
      (notes_both (λ k. At (basic.Class t) k ⊎ At (basic.Exists (Direct t)) k) (At (basic.Exists (Inverse t))) a c d (notes_both (At (basic.Class t)) (At (basic.Exists (Direct t))) a b c one two) three) four)

  -- the concepts of the terms below a number
  abbrev pub OfBelow : ℕ → ℕ → Type 0
  OfBelow n k = (m : ℕ) × (m < n) × IsItselfOf axioms m k

  pub below_none : (rows : List (List ℕ)) → Notes (OfBelow 0) rows rows
  below_none rows = notes_same (OfBelow 0) rows (λ k h. omega (arith, h.1))

  pub below_more : (n : ℕ) (a b c : List (List ℕ)) → Notes (OfBelow n) a b → Notes (IsItselfOf axioms n) b c → Notes (OfBelow (n + 1)) a c
  below_more n a b c one two = notes_as (λ k. OfBelow n k ⊎ IsItselfOf axioms n k) (OfBelow (n + 1)) a c
      (λ k. (
        (λ s. ⊎_elim (λ (m, l, q). (m, omega (arith, l), q)) (λ q. (n, omega arith, q)) s),
        (λ (m, l, q). ⊎_elim (λ less. inl (m, less, q)) (λ least. let same : m ≡ n = omega (arith, l, least) in inr (subst (λ (z : ℕ). IsItselfOf axioms z k) same q)) (cases_lt m n)),
      ))
      (notes_both (OfBelow n) (IsItselfOf axioms n) a b c one two)

  -- the partners that the axioms so far give
  pub partners_none : (rows : List (List ℕ)) → Notes (HasPartnerNode axioms []) rows rows
  partners_none rows = notes_same (HasPartnerNode axioms []) rows (λ k h. nowhere h.0 h.1)

  pub partners_more : (all : List Axiom) (i : ℕ) (it : Axiom) (a b c : List (List ℕ)) → i < length all → it ≡ get_or all i it → Notes (HasPartnerNode axioms (take i all)) a b → Notes (IsPartnerNode axioms it) b c
      → Notes (HasPartnerNode axioms (take (i + 1) all)) a c
  partners_more all i it a b c l same one two = subst (λ (xs : List Axiom). Notes (HasPartnerNode axioms xs) a c) (sym (take_on all i it l same))
      (notes_as (λ k. HasPartnerNode axioms (take i all) k ⊎ IsPartnerNode axioms it k) (HasPartnerNode axioms (take i all ++ it ∷ [])) a c
      (λ k. (
        (λ s. ⊎_elim (λ (x, m, q). (x, Contains-append_left (take i all) (it ∷ []) x m, q)) (λ q. (it, Contains-append_right (take i all) (it ∷ []) it (here it []), q)) s),
        (λ (x, m, q). ⊎_elim (λ n. inl (x, n, q)) (λ n. inr (subst (λ (z : Axiom). IsPartnerNode axioms z k) (sym n) q)) (Contains-push_cases (take i all) it x m)),
      ))
      (notes_both (HasPartnerNode axioms (take i all)) (IsPartnerNode axioms it) a b c one two))

  -- one axiom
  pub partner_one : (it : Axiom) (b : Basic) (q : RoleSide) (f w : Basic) (at : ℕ) (old new : List (List ℕ)) → it ≡ ConceptSome b q f → w ≡ basic.Exists (inverse q) → AreDisjointAmong axioms w f → at ≡ merged_node b
      → ((i k : ℕ) → IsMarked (row new i) k ↔ (IsMarked (row old i) k ⊎ ((i ≡ at) × (k ≡ 0)))) → Notes (IsPartnerNode axioms it) old new
  partner_one it b q f w at old new is witness h node step = notes_one (IsPartnerNode axioms it) at old new
      (b, q, f, is, subst (λ (z : Basic). AreDisjointAmong axioms z f) witness h, node)
      (λ k (v, r, g, x, h, i). let same : v ≡ b = cc in subst (λ (z : Basic). k ≡ merged_node z) same i ∙ sym node) step

  pub partner_none : (it : Axiom) (b : Basic) (q : RoleSide) (f w : Basic) (rows : List (List ℕ)) → it ≡ ConceptSome b q f → w ≡ basic.Exists (inverse q) → ¬ AreDisjointAmong axioms w f → Notes (IsPartnerNode axioms it) rows rows
  partner_none it b q f w rows is witness none = notes_same (IsPartnerNode axioms it) rows (λ k (v, r, g, x, h, i).
      let role : r ≡ q = cc in
      let same : g ≡ f = cc in
      none (subst (λ (z : Basic). AreDisjointAmong axioms z f) (sym witness) (subst (λ (z : RoleSide). AreDisjointAmong axioms (basic.Exists (inverse z)) f) role (subst (AreDisjointAmong axioms (basic.Exists (inverse r))) same h))))

  -- ---- contradictory concepts, as the tables tell them

  abbrev pub HasPartner : Basic → Type 0
  HasPartner b = (q : RoleSide) × (f : Basic) × Contains axioms (ConceptSome b q f) × IsContradictoryPartner axioms q f

  disjoint_by : (b f d g : Basic) → Contains axioms (ConceptApart d g) → ConceptReaches axioms b d → ConceptReaches axioms f g → AreDisjointConcepts axioms b f
  disjoint_by b f d g m h i = inl (ConceptApart d g, m, (d, g, refl, h, i))

  disjoint_turned : (b f d g : Basic) → Contains axioms (ConceptApart d g) → ConceptReaches axioms b d → ConceptReaches axioms f g → AreDisjointConcepts axioms f b
  disjoint_turned b f d g m h i = inr (ConceptApart d g, m, (d, g, refl, h, i))

  filled : (q : RoleSide) (f d g : Basic) → Contains axioms (ConceptApart d g) → IsFilled axioms q f d → IsFilled axioms q f g → IsContradictoryPartner axioms q f
  filled q f d g m (inl h) (inl i) = inl (disjoint_by (basic.Exists (inverse q)) (basic.Exists (inverse q)) d g m h i)
  filled q f d g m (inl h) (inr i) = inr (inl (disjoint_by (basic.Exists (inverse q)) f d g m h i))
  filled q f d g m (inr h) (inl i) = inr (inl (disjoint_turned f (basic.Exists (inverse q)) d g m h i))
  filled q f d g m (inr h) (inr i) = inr (inr (disjoint_by f f d g m h i))

  to_parts : (b : Basic) → IsContradictory axioms b → IsContradictoryItself axioms b ⊎ HasPartner b
  to_parts b (e.concepts z d g m h i) = inl (inl (disjoint_by b b d g m h i))
  to_parts b (e.roles q r s m h i) = inl (inr (inl (RoleApart r s, m, (r, s, refl, h, i))))
  to_parts b (e.attrs u v w m h i) = inl (inr (inl (inl (AttrApart v w, m, (v, w, refl, h, i)))))
  to_parts b (e.ranges u v w d g m n ne h i) = inl (inr (inr (d, g, (v, m, h), (w, n, i), ne)))
  to_parts b (e.fillers z f d g q m n h i) = inr (q, f, m, filled q f d g n h i)

  by_kind : (b : Basic) → IsContradictoryByKind axioms b → IsContradictory axioms b
  by_kind (basic.Class c) h = absurd h
  by_kind (basic.Exists q) (inl (it, m, (r, s, x, h, i))) = e.roles q r s (subst (Contains axioms) x m) h i
  by_kind (basic.Exists q) (inr (it, m, (r, s, x, h, i))) = e.roles q r s (subst (Contains axioms) x m) h i
  by_kind (basic.Domain u) (inl (inl (it, m, (v, w, x, h, i)))) = e.attrs u v w (subst (Contains axioms) x m) h i
  by_kind (basic.Domain u) (inl (inr (it, m, (v, w, x, h, i)))) = e.attrs u v w (subst (Contains axioms) x m) h i
  by_kind (basic.Domain u) (inr (d, g, (v, m, h), (w, n, i), ne)) = e.ranges u v w d g m n ne h i

  from_itself : (b : Basic) → IsContradictoryItself axioms b → IsContradictory axioms b
  from_itself b (inl (inl (it, m, (d, g, x, h, i)))) = e.concepts b d g (subst (Contains axioms) x m) h i
  from_itself b (inl (inr (it, m, (d, g, x, h, i)))) = e.concepts b d g (subst (Contains axioms) x m) h i
  from_itself b (inr h) = by_kind b h

  from_partner : (b : Basic) (q : RoleSide) (f : Basic) → Contains axioms (ConceptSome b q f) → IsContradictoryPartner axioms q f → IsContradictory axioms b
  from_partner b q f m (inl (inl (it, n, (d, g, x, h, i)))) = e.fillers b f d g q m (subst (Contains axioms) x n) (inl h) (inl i)
  from_partner b q f m (inl (inr (it, n, (d, g, x, h, i)))) = e.fillers b f d g q m (subst (Contains axioms) x n) (inl h) (inl i)
  from_partner b q f m (inr (inl (inl (it, n, (d, g, x, h, i))))) = e.fillers b f d g q m (subst (Contains axioms) x n) (inl h) (inr i)
  from_partner b q f m (inr (inl (inr (it, n, (d, g, x, h, i))))) = e.fillers b f d g q m (subst (Contains axioms) x n) (inr h) (inl i)
  from_partner b q f m (inr (inr (inl (it, n, (d, g, x, h, i))))) = e.fillers b f d g q m (subst (Contains axioms) x n) (inr h) (inr i)
  from_partner b q f m (inr (inr (inr (it, n, (d, g, x, h, i))))) = e.fillers b f d g q m (subst (Contains axioms) x n) (inr h) (inr i)

  -- k is the node of a contradictory concept
  abbrev pub IsContradictoryNode : ℕ → Type 0
  IsContradictoryNode k = (c : Basic) × (k ≡ merged_node c) × IsContradictory axioms c

  noted_is : (first mid last : List (List ℕ)) → ((k : ℕ) → ¬ IsNoted first k) → Notes (IsItselfNode axioms) first mid → Notes (HasPartnerNode axioms axioms) mid last
      → (k : ℕ) → IsNoted last k ↔ IsContradictoryNode k
  noted_is first mid last none one two k = (
    λ m. ⊎_elim
        (λ x. ⊎_elim (λ y. absurd (none k y)) (λ (c, (i, h)). (c, i, from_itself c h)) ((one k).0 x))
        (λ (it, n, (b, q, f, x, h, i)). (b, i, from_partner b q f (subst (Contains axioms) x n) h))
        ((two k).0 m),
    λ (c, i, h). (two k).1 (⊎_elim
        (λ x. inl ((one k).1 (inr (c, (i, x)))))
        (λ (q, f, m, x). inr (ConceptSome c q f, m, (c, q, f, refl, x, i)))
        (to_parts c h)),
  )

  pub empty_is : (needs : List (ℕ × ℕ)) (first mid last new : List (List ℕ)) → ((k : ℕ) → ¬ IsNoted first k) → Notes (IsItselfNode axioms) first mid → Notes (HasPartnerNode axioms axioms) mid last
      → HaveSamePaths needs (all_edges part.NeedEdges axioms) → ((i k : ℕ) → IsMarked (row new i) k ↔ Gathers needs last i k) → AreEmptyRows axioms new
  empty_is needs first mid last new none one two same gathers b = (
    λ m.
        let g = (gathers (merged_node b) 0).0 m in
        let t = (noted_is first mid last none one two g.0).0 g.2 in
        (t.0, (need_paths axioms b t.0).0 (subst (Path (all_edges part.NeedEdges axioms) (merged_node b)) t.1 ((same (merged_node b) g.0).0 g.1)), t.2),
    λ (c, n, t). (gathers (merged_node b) 0).1 (merged_node c, (same (merged_node b) (merged_node c)).1 ((need_paths axioms b c).1 n), (noted_is first mid last none one two (merged_node c)).1 (c, refl, t)),
  )

pub below_all : (theory : Theory) → IsKnown theory → (n : ℕ) → n ≡ length theory.terms → (a b : List (List ℕ)) → Notes (OfBelow theory.axioms n) a b → Notes (IsItselfNode theory.axioms) a b
below_all theory known n all a b h = notes_as (OfBelow theory.axioms n) (IsItselfNode theory.axioms) a b
    (λ k. (
      (λ (m, l, (c, i, q)). (c, q)),
      (λ (c, q). (term_number c, subst (λ (z : ℕ). term_number c < z) (sym all) (number_in theory c (contradictory_known theory known c (from_itself theory.axioms c q.1))), (c, refl, q))),
    ))
    h
