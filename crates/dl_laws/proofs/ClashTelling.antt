-- Whether facts clash, whether a fact entails another, and what it entails.
use Rattle.std.proofs.Common.{◌≡◌, ℕ, List, [], ◌∷◌, ◌++◌, sym, subst, inl, inr, ◌⊎◌, ⊎_elim}
use Rattle.std.specs.Prelude.{Contains, ◌↔◌}
use Rattle.dl_base.specs.declared.axioms.Axiom.{Axiom}
use Rattle.dl_base.specs.declared.axioms.Axiom.TheVariants.{ConceptIn, ConceptApart, RoleIn, RoleApart, AttrIn, AttrApart, Range, FunctionalRole, FunctionalAttr, ConceptSome}
use Rattle.dl_base.specs.declared.terms.Term.{Term}
use Rattle.dl_base.specs.declared.terms.RoleSide.{RoleSide}
use Rattle.dl_base.specs.declared.terms.RoleSide.TheVariants.{Direct, Inverse}
use Rattle.dl_base.specs.declared.terms.Basic.{Basic}
use Rattle.dl_base.specs.declared.terms.Basic.TheVariants as basic
use Rattle.dl_base.specs.declared.statements.Fact.{Fact}
use Rattle.dl_base.specs.declared.statements.Fact.TheVariants as fact
use Rattle.dl_base.specs.Derivation.{inverse, row_of, InClosure}
use Rattle.dl_base.specs.Clash.{RoleReaches, AttrReaches, HasClash}
use Rattle.dl_base.specs.Reach as reach
use Rattle.dl_base.specs.Reach.{ConceptStep, ConceptReaches}
use Rattle.dl_base.proofs.Members.{here, there, alone, nowhere, cons_cases, among, beside}
use Rattle.dl_laws.specs.Emptiness as e
use Rattle.dl_laws.specs.Emptiness.{NeedStep, Needs, IsContradictory, IsUnsatisfiable, IsFilled, Collide}
use Rattle.std.specs.List.{flat_map}
use Rattle.std.proofs.lemmas.List.Elements.{Contains-append_left, Contains-append_right, Contains-append_cases}
use Rattle.dl_base.specs.Updates.{Meets}
use Rattle.dl_base.proofs.ClashLaws.{clash_of_two, clash_more}
use Rattle.dl_laws.specs.Rows.{Start, OfConcept, OfRole, OfAttr, row, subject, concept, starts, Leads}
use Rattle.dl_laws.proofs.RowLaws.{comes, came}
use Rattle.dl_laws.proofs.Saying.{Says, said}
use Rattle.dl_laws.proofs.Emptying.{start_concept, leads_role, leads_attr}
use Rattle.dl_laws.proofs.Pairs.{alone_clash, pair_clash, IsCross}
use Rattle.dl_laws.specs.Why.{KindWhy}
use Rattle.dl_laws.proofs.Colliding.{collide_why, apart_subjects}
use Rattle.dl_laws.specs.Edges.{merged_node, need_edges}
use Rattle.dl_laws.proofs.EdgeLaws.{need_paths, in_flat_map, out_of_flat_map}
use Rattle.dl_laws.proofs.Telling.{Told, told_by, told_or, told_both, told_some, same_list, same_value}
use Rattle.dl_laws.proofs.PathTelling.{told_path}
use Rattle.dl_laws.proofs.AxiomTelling.{told_concept, told_role, told_attr, told_contradictory, told_parts_concepts, told_role_why, told_attr_why}

-- the concept, and 'some role' of the other side
abbrev both_sides : Basic → List Basic
both_sides (basic.Class t) = basic.Class t ∷ []
both_sides (basic.Exists q) = basic.Exists q ∷ basic.Exists (inverse q) ∷ []
both_sides (basic.Domain u) = basic.Domain u ∷ []

-- the concepts that the axiom carries something over to
abbrev named_by : Axiom → List Basic
named_by (ConceptIn b d) = both_sides d
named_by (RoleIn q r) = both_sides (basic.Exists r)
named_by (AttrIn u w) = both_sides (basic.Domain w)
named_by (ConceptSome b q d) = both_sides (basic.Exists q) ++ both_sides d
named_by other = []

itself_of : (b : Basic) → Contains (both_sides b) b
itself_of (basic.Class t) = here (basic.Class t) []
itself_of (basic.Exists q) = here (basic.Exists q) (basic.Exists (inverse q) ∷ [])
itself_of (basic.Domain u) = here (basic.Domain u) []

other_of : (q : RoleSide) → Contains (both_sides (basic.Exists q)) (basic.Exists (inverse q))
other_of q = there (basic.Exists q) (basic.Exists (inverse q) ∷ []) (basic.Exists (inverse q)) (here (basic.Exists (inverse q)) [])

from_other : (q : RoleSide) → Contains (both_sides (basic.Exists (inverse q))) (basic.Exists q)
from_other (Direct p) = other_of (Inverse p)
from_other (Inverse p) = other_of (Direct p)

-- the list has 'some role' of both sides or of none
turned_in : (b : Basic) (q r : RoleSide) → r ≡ inverse q → Contains (both_sides b) (basic.Exists q) → Contains (both_sides b) (basic.Exists r)
turned_in (basic.Class t) q r i m = let k = alone (basic.Class t) (basic.Exists q) m in cc
turned_in (basic.Domain t) q r i m = let k = alone (basic.Domain t) (basic.Exists q) m in cc
turned_in (basic.Exists s) q r i m = ⊎_elim
    (λ k. let same : s ≡ q = cc in subst (λ (z : RoleSide). Contains (both_sides (basic.Exists s)) (basic.Exists z)) (sym i) (subst (λ (z : RoleSide). Contains (both_sides (basic.Exists s)) (basic.Exists (inverse z))) same (other_of s)))
    (λ n. let k = alone (basic.Exists (inverse s)) (basic.Exists q) n in let same : inverse s ≡ q = cc in
    subst (λ (z : RoleSide). Contains (both_sides (basic.Exists s)) (basic.Exists z)) (sym i)
    (subst (λ (z : RoleSide). Contains (both_sides (basic.Exists s)) (basic.Exists (inverse z))) same (back s)))
    (cons_cases (basic.Exists s) (basic.Exists (inverse s) ∷ []) (basic.Exists q) m)
  where
    back : (s : RoleSide) → Contains (both_sides (basic.Exists s)) (basic.Exists (inverse (inverse s)))
    back (Direct p) = itself_of (basic.Exists (Direct p))
    back (Inverse p) = itself_of (basic.Exists (Inverse p))

turned_named : (it : Axiom) (q r : RoleSide) → r ≡ inverse q → Contains (named_by it) (basic.Exists q) → Contains (named_by it) (basic.Exists r)
turned_named (ConceptIn b d) q r i m = turned_in d q r i m
turned_named (RoleIn s t) q r i m = turned_in (basic.Exists t) q r i m
turned_named (AttrIn u w) q r i m = turned_in (basic.Domain w) q r i m
turned_named (ConceptSome b s d) q r i m = ⊎_elim
    (λ k. Contains-append_left (both_sides (basic.Exists s)) (both_sides d) (basic.Exists r) (turned_in (basic.Exists s) q r i k))
    (λ k. Contains-append_right (both_sides (basic.Exists s)) (both_sides d) (basic.Exists r) (turned_in d q r i k))
    (Contains-append_cases (both_sides (basic.Exists s)) (both_sides d) (basic.Exists q) m)
turned_named (ConceptApart b d) q r i m = absurd (nowhere (basic.Exists q) m)
turned_named (RoleApart b d) q r i m = absurd (nowhere (basic.Exists q) m)
turned_named (AttrApart b d) q r i m = absurd (nowhere (basic.Exists q) m)
turned_named (Range b d) q r i m = absurd (nowhere (basic.Exists q) m)
turned_named (FunctionalRole b) q r i m = absurd (nowhere (basic.Exists q) m)
turned_named (FunctionalAttr b) q r i m = absurd (nowhere (basic.Exists q) m)

module _ (axioms : List Axiom) where
  -- what the concept may need
  abbrev near : Basic → List Basic
  near b = both_sides b ++ flat_map named_by axioms

  by_axiom : (b k : Basic) (it : Axiom) → Contains axioms it → Contains (named_by it) k → Contains (near b) k
  by_axiom b k it m n = Contains-append_right (both_sides b) (flat_map named_by axioms) k (in_flat_map named_by axioms it k m n)

  step_near : (b k l : Basic) → ConceptStep axioms k l → Contains (near b) l
  step_near b k l (reach.concept v w m) = by_axiom b w (ConceptIn v w) m (itself_of w)
  step_near b k l (reach.role q r (inl m)) = by_axiom b (basic.Exists r) (RoleIn q r) m (itself_of (basic.Exists r))
  step_near b k l (reach.role q r (inr m)) = by_axiom b (basic.Exists r) (RoleIn (inverse q) (inverse r)) m (from_other r)
  step_near b k l (reach.attr u w m) = by_axiom b (basic.Domain w) (AttrIn u w) m (itself_of (basic.Domain w))
  step_near b k l (reach.some_in v w q m) = by_axiom b (basic.Exists q) (ConceptSome v q w) m (Contains-append_left (both_sides (basic.Exists q)) (both_sides w) (basic.Exists q) (itself_of (basic.Exists q)))

  partner_near : (b : Basic) (q r : RoleSide) → r ≡ inverse q → Contains (near b) (basic.Exists q) → Contains (near b) (basic.Exists r)
  partner_near b q r i m = ⊎_elim
      (λ k. Contains-append_left (both_sides b) (flat_map named_by axioms) (basic.Exists r) (turned_in b q r i k))
      (λ k. let o = out_of_flat_map named_by axioms (basic.Exists q) k in by_axiom b (basic.Exists r) o.0 o.1 (turned_named o.0 q r i o.2))
      (Contains-append_cases (both_sides b) (flat_map named_by axioms) (basic.Exists q) m)

  need_near : (b k l : Basic) → NeedStep axioms k l → Contains (near b) k → Contains (near b) l
  need_near b k l (e.same v w s) m = step_near b v w s
  need_near b k l (e.partner q r i) m = partner_near b q r i m
  need_near b k l (e.filler v w q n) m = by_axiom b w (ConceptSome v q w) n (Contains-append_right (both_sides (basic.Exists q)) (both_sides w) w (itself_of w))

  needed_near : (b k : Basic) → Needs axioms b k → Contains (near b) k
  needed_near b k (e.itself z) = Contains-append_left (both_sides b) (flat_map named_by axioms) b (itself_of b)
  needed_near b k (e.further z w y n s) = need_near b w k s (needed_near b w n)

  told_needs : (b k : Basic) → Told (Needs axioms b k)
  told_needs b k = told_by (need_paths axioms b k) (told_path (flat_map need_edges axioms) (merged_node b) (merged_node k))

  pub told_is_unsatisfiable : (b : Basic) → Told (IsUnsatisfiable axioms b)
  told_is_unsatisfiable b = told_by ((λ h. (h.0, h.2.0, h.2.1)), (λ h. (h.0, needed_near b h.0 h.1, (h.1, h.2)))) (told_some (λ (k : Basic). Needs axioms b k × IsContradictory axioms k) (near b) (λ k. told_both (told_needs b k) (told_contradictory axioms k)))

  told_kind : (s t : Start) → Told (KindWhy axioms s t)
  told_kind (OfConcept a b) t = inr (λ h. h)
  told_kind (OfRole a b q) (OfConcept k d) = inr (λ h. h)
  told_kind (OfRole a b q) (OfRole k d r) = told_role_why axioms b d q r
  told_kind (OfRole a b q) (OfAttr k y w) = inr (λ h. h)
  told_kind (OfAttr a x u) (OfConcept k d) = inr (λ h. h)
  told_kind (OfAttr a x u) (OfRole k d r) = inr (λ h. h)
  told_kind (OfAttr a x u) (OfAttr k y w) = told_attr_why axioms x y u w

  told_collide : (s t : Start) → Told (Collide axioms s t)
  told_collide s t = ⊎_elim
      (λ i. told_by ((collide_why axioms s t i).1, (collide_why axioms s t i).0) (told_or (told_parts_concepts axioms (concept s) (concept t)) (told_kind s t)))
      (λ n. inr (apart_subjects axioms s t n))
      (same_list (subject s) (subject t))

  told_alone : (f : Fact) → Told (HasClash axioms (f ∷ []))
  told_alone f = told_by ((λ h. (alone_clash axioms f).1 (h.0, h.2.0, h.1, h.2.1, h.2.2)), (λ h. let p = (alone_clash axioms f).0 h in (p.0, p.2, (p.1, p.3, p.4))))
      (told_some (λ (s : Start). (t : Start) × Contains (starts f) t × (IsUnsatisfiable axioms (concept s) ⊎ Collide axioms s t)) (starts f)
      (λ s. told_some (λ (t : Start). IsUnsatisfiable axioms (concept s) ⊎ Collide axioms s t) (starts f) (λ t. told_or (told_is_unsatisfiable (concept s)) (told_collide s t))))

  told_cross : (f g : Fact) → Told (IsCross axioms f g)
  told_cross f g = told_by ((λ h. (h.0, h.2.0, h.1, h.2.1, h.2.2)), (λ p. (p.0, p.2, (p.1, p.3, p.4))))
      (told_some (λ (s : Start). (t : Start) × Contains (starts g) t × (Collide axioms s t ⊎ Collide axioms t s)) (starts f)
      (λ s. told_some (λ (t : Start). Collide axioms s t ⊎ Collide axioms t s) (starts g) (λ t. told_or (told_collide s t) (told_collide t s))))

  told_pair : (f g : Fact) → Told (HasClash axioms (f ∷ [])) → Told (HasClash axioms (g ∷ [])) → Told (HasClash axioms (f ∷ g ∷ []))
  told_pair f g (inl h) k = inl (clash_more axioms (f ∷ []) (f ∷ g ∷ []) (among f (f ∷ g ∷ []) (here f (g ∷ []))) h)
  told_pair f g (inr n) (inl h) = inl (clash_more axioms (g ∷ []) (f ∷ g ∷ []) (among g (f ∷ g ∷ []) (there f (g ∷ []) g (here g []))) h)
  told_pair f g (inr n) (inr m) = told_by ((pair_clash axioms f g n m).1, (pair_clash axioms f g n m).0) (told_cross f g)

  clash_two : (facts : List Fact) → ((f : Fact) × Contains facts f × ((g : Fact) × Contains facts g × HasClash axioms (f ∷ g ∷ []))) ↔ HasClash axioms facts
  clash_two facts = (
    (λ h. clash_more axioms (h.0 ∷ h.2.0 ∷ []) facts (beside h.0 (h.2.0 ∷ []) facts h.1 (among h.2.0 facts h.2.1)) h.2.2),
    λ h. let p = clash_of_two axioms facts h in (p.0, p.2, (p.1, p.3, p.4)),
  )

  -- whether facts clash
  pub told_clash : (facts : List Fact) → Told (HasClash axioms facts)
  told_clash facts = told_by (clash_two facts) (told_some (λ (f : Fact). (g : Fact) × Contains facts g × HasClash axioms (f ∷ g ∷ [])) facts
      (λ f. told_some (λ (g : Fact). HasClash axioms (f ∷ g ∷ [])) facts (λ g. told_pair f g (told_alone f) (told_alone g))))

  says_leads : (s : Start) (g : Fact) → Says axioms s (row_of g) → Leads axioms (row s) (row_of g)
  says_leads s (fact.Class k x) h = subst (λ (z : List ℕ). Leads axioms (row s) (row_of (fact.Class k z))) (sym h.0) (start_concept axioms s (basic.Class k) h.1)
  says_leads s (fact.Role p x y) h = subst (λ z. Leads axioms (row z) (row_of (fact.Role p x y))) (sym h.1) (leads_role axioms x y h.0 (Direct p) h.2)
  says_leads s (fact.Attr w x v) h = subst (λ z. Leads axioms (row z) (row_of (fact.Attr w x v))) (sym h.1) (leads_attr axioms x v h.0 w h.2)

  -- what one fact entails, by its start rows
  pub entailed_is : (f g : Fact) → ((s : Start) × Contains (starts f) s × Says axioms s (row_of g)) ↔ InClosure axioms (f ∷ []) g
  entailed_is f g = (
    (λ h. came axioms (f ∷ []) (row_of g) (f, h.0, here f [], h.1, says_leads h.0 g h.2)),
    λ h. let p = comes axioms (f ∷ []) (row_of g) h in (p.1, subst (λ z. Contains (starts z) p.1) (sym (alone f p.0 p.2)) p.3, said axioms p.1 (row_of g) p.4),
  )

  told_three : {P Q R : Type 0} → Told P → Told Q → Told R → Told (P × Q × R)
  told_three (inl p) (inl q) (inl r) = inl (p, q, r)
  told_three (inl p) (inl q) (inr n) = inr (λ h. n h.2)
  told_three (inl p) (inr n) k = inr (λ h. n h.1)
  told_three (inr n) j k = inr (λ h. n h.0)

  told_says : (s : Start) (g : Fact) → Told (Says axioms s (row_of g))
  told_says s (fact.Class k x) = told_both (same_list x (subject s)) (told_concept axioms (concept s) (basic.Class k))
  told_says (OfConcept a b) (fact.Role p x y) = inr (λ h. let i = h.1 in cc)
  told_says (OfRole a b q) (fact.Role p x y) = told_by ((λ h. let i = h.0 in let j = h.1 in (q, cc, h.2)), (λ h. let i = h.1 in (cc, cc, (let same : h.0 ≡ q = cc in subst (λ (z : RoleSide). RoleReaches axioms z (Direct p)) same h.2)))) (told_three (same_list a x) (same_list b y) (told_role axioms q (Direct p)))
  told_says (OfAttr a v u) (fact.Role p x y) = inr (λ h. let i = h.1 in cc)
  told_says (OfConcept a b) (fact.Attr w x y) = inr (λ h. let i = h.1 in cc)
  told_says (OfRole a b q) (fact.Attr w x y) = inr (λ h. let i = h.1 in cc)
  told_says (OfAttr a v u) (fact.Attr w x y) = told_by ((λ h. let i = h.0 in let j = h.1 in (u, cc, h.2)), (λ h. let i = h.1 in (cc, cc, (let same : h.0 ≡ u = cc in subst (λ (z : Term). AttrReaches axioms z w) same h.2)))) (told_three (same_list a x) (same_value v y) (told_attr axioms u w))

  -- whether the one fact entails the other
  pub told_entails : (f g : Fact) → Told (InClosure axioms (f ∷ []) g)
  told_entails f g = told_by (entailed_is f g) (told_some (λ (s : Start). Says axioms s (row_of g)) (starts f) (λ s. told_says s g))

  -- whether the fact meets the request
  pub told_meets : (inserts deletes : List Fact) (f : Fact) → Told (Meets axioms inserts deletes f)
  told_meets inserts deletes f = told_or (told_clash (f ∷ inserts)) (told_some (λ (d : Fact). InClosure axioms (f ∷ []) d) deletes (λ d. told_entails f d))
