-- Where reachability shows a clash there is one, and emptiness by reachability.
use Rattle.std.proofs.Common.{◌≡◌, ℕ, List, [], ◌∷◌, refl, sym, subst, ap, inl, inr, ◌⊎◌, ⊎_elim}
use Rattle.std.specs.Prelude.{◌≢◌, ◌↔◌, Contains}
use Rattle.dl_base.specs.declared.axioms.Axiom.{Axiom}
use Rattle.dl_base.specs.declared.axioms.Axiom.TheVariants.{Range, ConceptSome}
use Rattle.dl_base.specs.declared.names.Value.{Value}
use Rattle.dl_base.specs.declared.terms.Term.{Term}
use Rattle.dl_base.specs.declared.terms.RoleSide.{RoleSide}
use Rattle.dl_base.specs.declared.terms.RoleSide.TheVariants.{Direct}
use Rattle.dl_base.specs.declared.terms.Basic.{Basic}
use Rattle.dl_base.specs.declared.terms.Basic.TheVariants as basic
use Rattle.dl_base.specs.Derivation as d
use Rattle.dl_base.specs.Derivation.{Thing, Named, Witness, WitnessIn, Row, HasConcept, HasRole, HasAttr, IsWitnessed, IsWitnessedIn, IsValued, Carries, inverse}
use Rattle.dl_base.specs.Clash as c
use Rattle.dl_base.specs.Clash.{RoleReaches, AttrReaches}
use Rattle.dl_base.specs.Reach as reach
use Rattle.dl_base.specs.Reach.{ConceptStep, ConceptReaches}
use Rattle.dl_laws.specs.Rows as rows
use Rattle.dl_laws.specs.Rows.{Leads, Contradict, Oppose, Start, OfConcept, OfRole, OfAttr, row, subject, concept}
use Rattle.dl_laws.specs.Emptiness as e
use Rattle.dl_laws.specs.Emptiness.{NeedStep, Needs, IsFilled, IsContradictory, IsUnsatisfiable, Collide, IsEmptyConcept, IsEmptyRole, IsEmptyAttr}
use Rattle.dl_laws.proofs.RowLaws.{leads_trans}
use Rattle.dl_laws.proofs.Saying.{opposed_is}

module _ (axioms : List Axiom) where
  step_carries : (x : Thing) (k l : Basic) → ConceptStep axioms k l → Carries axioms (HasConcept x k) (HasConcept x l)
  step_carries x k l (reach.concept v w m) = d.concept x k l m
  step_carries x k l (reach.role q r m) = d.some_role x q r m
  step_carries x k l (reach.attr u w m) = d.domain x u w m
  step_carries x k l (reach.some_in b v q m) = d.some_in x b v q m

  pub leads_concept : (x : Thing) (k l : Basic) → ConceptReaches axioms k l → Leads axioms (HasConcept x k) (HasConcept x l)
  leads_concept x k l (reach.itself z) = rows.itself (HasConcept x k)
  leads_concept x k l (reach.further z w y h s) = rows.onward (HasConcept x k) (HasConcept x w) (HasConcept x l) (leads_concept x k w h) (step_carries x w l s)

  pub leads_role : (a b : List ℕ) (q r : RoleSide) → RoleReaches axioms q r → Leads axioms (HasRole a b q) (HasRole a b r)
  leads_role a b q r (c.itself z) = rows.itself (HasRole a b q)
  leads_role a b q r (c.further z w y h s) = rows.onward (HasRole a b q) (HasRole a b w) (HasRole a b r) (leads_role a b q w h) (d.role a b w r s)

  pub leads_attr : (a : List ℕ) (v : Value) (u w : Term) → AttrReaches axioms u w → Leads axioms (HasAttr a v u) (HasAttr a v w)
  leads_attr a v u w (c.itself z) = rows.itself (HasAttr a v u)
  leads_attr a v u w (c.further z x y h s) = rows.onward (HasAttr a v u) (HasAttr a v x) (HasAttr a v w) (leads_attr a v u x h) (d.attr a v x w s)

  to_witnessed : (x : Thing) (q : RoleSide) → Leads axioms (HasConcept x (basic.Exists q)) (IsWitnessed q)
  to_witnessed x q = rows.onward (HasConcept x (basic.Exists q)) (HasConcept x (basic.Exists q)) (IsWitnessed q) (rows.itself (HasConcept x (basic.Exists q))) (d.witnessed x q)

  to_valued : (x : Thing) (u : Term) → Leads axioms (HasConcept x (basic.Domain u)) (IsValued u)
  to_valued x u = rows.onward (HasConcept x (basic.Domain u)) (HasConcept x (basic.Domain u)) (IsValued u) (rows.itself (HasConcept x (basic.Domain u))) (d.valued x u)

  abbrev Somewhere : Thing → Basic → Basic → Type 0
  Somewhere x b k = (y : Thing) × Leads axioms (HasConcept x b) (HasConcept y k)

  one_more : (x : Thing) (b k l : Basic) → NeedStep axioms k l → Somewhere x b k → Somewhere x b l
  one_more x b k l (e.same v w s) (y, h) = (y, rows.onward (HasConcept x b) (HasConcept y k) (HasConcept y l) h (step_carries y k l s))
  one_more x b k l (e.partner q r i) (y, h) = (Witness q, rows.onward (HasConcept x b) (IsWitnessed q) (HasConcept (Witness q) (basic.Exists r)) (rows.onward (HasConcept x b) (HasConcept y (basic.Exists q)) (IsWitnessed q) h (d.witnessed y q)) (d.witness q r i))
  one_more x b k l (e.filler v w q m) (y, h) = (WitnessIn q l, rows.onward (HasConcept x b) (IsWitnessedIn q l) (HasConcept (WitnessIn q l) l) (rows.onward (HasConcept x b) (HasConcept y k) (IsWitnessedIn q l) h (d.witnessed_in y k l q m)) (d.witness_has q l))

  somewhere : (x : Thing) (b k : Basic) → Needs axioms b k → Somewhere x b k
  somewhere x b k (e.itself z) = (x, rows.itself (HasConcept x b))
  somewhere x b k (e.further z w y n s) = one_more x b w k s (somewhere x b w n)

  pub oppose_before : (q r s t : Row) → Leads axioms q s → Leads axioms r t → Oppose axioms s t → Oppose axioms q r
  oppose_before q r s t h i (x, y, k, l, m) = (x, y, k, leads_trans axioms q s x h l, leads_trans axioms r t y i m)

  twice : (q s : Row) → Leads axioms q s → Contradict axioms s s → Oppose axioms q q
  twice q s h k = (s, s, k, h, h)

  chosen : (y : Thing) (b f : Basic) (q : RoleSide) → Contains axioms (ConceptSome b q f) → Leads axioms (HasConcept y b) (IsWitnessedIn q f)
  chosen y b f q m = rows.onward (HasConcept y b) (HasConcept y b) (IsWitnessedIn q f) (rows.itself (HasConcept y b)) (d.witnessed_in y b f q m)

  filled : (q : RoleSide) (f k : Basic) → IsFilled axioms q f k → Leads axioms (IsWitnessedIn q f) (HasConcept (WitnessIn q f) k)
  filled q f k (inl h) = leads_trans axioms (IsWitnessedIn q f) (HasConcept (WitnessIn q f) (basic.Exists (inverse q))) (HasConcept (WitnessIn q f) k) (rows.onward (IsWitnessedIn q f) (IsWitnessedIn q f) (HasConcept (WitnessIn q f) (basic.Exists (inverse q))) (rows.itself (IsWitnessedIn q f)) (d.witness_in q (inverse q) f refl)) (leads_concept (WitnessIn q f) (basic.Exists (inverse q)) k h)
  filled q f k (inr h) = leads_trans axioms (IsWitnessedIn q f) (HasConcept (WitnessIn q f) f) (HasConcept (WitnessIn q f) k) (rows.onward (IsWitnessedIn q f) (IsWitnessedIn q f) (HasConcept (WitnessIn q f) f) (rows.itself (IsWitnessedIn q f)) (d.witness_has q f)) (leads_concept (WitnessIn q f) f k h)

  contradictory_opposes : (y : Thing) (k : Basic) → IsContradictory axioms k → Oppose axioms (HasConcept y k) (HasConcept y k)
  contradictory_opposes y k (e.concepts z v w m h i) = (HasConcept y v, HasConcept y w, rows.concepts y v w m, leads_concept y k v h, leads_concept y k w i)
  contradictory_opposes y k (e.roles q r s m h i) = twice (HasConcept y (basic.Exists q)) (IsWitnessed q) (to_witnessed y q) (rows.witness_roles q r s m h i)
  contradictory_opposes y k (e.attrs u v w m h i) = twice (HasConcept y (basic.Domain u)) (IsValued u) (to_valued y u) (rows.value_attrs u v w m h i)
  contradictory_opposes y k (e.ranges u v w x z m n ne h i) = twice (HasConcept y (basic.Domain u)) (IsValued u) (to_valued y u) (rows.value_ranges u v w x z m n ne h i)
  contradictory_opposes y k (e.fillers b f v w q m n h i) =
      let x = WitnessIn q f in
      let to = chosen y k f q m in (
        HasConcept x v,
        HasConcept x w,
        rows.concepts x v w n,
        leads_trans axioms (HasConcept y k) (IsWitnessedIn q f) (HasConcept x v) to (filled q f v h),
        leads_trans axioms (HasConcept y k) (IsWitnessedIn q f) (HasConcept x w) to (filled q f w i),
      )

  -- a thing in an impossible concept
  pub impossible : (x : Thing) (b : Basic) → IsUnsatisfiable axioms b → Oppose axioms (HasConcept x b) (HasConcept x b)
  impossible x b (k, n, t) =
      let at = somewhere x b k n in
      oppose_before (HasConcept x b) (HasConcept x b) (HasConcept at.0 k) (HasConcept at.0 k) at.1 at.1 (contradictory_opposes at.0 k t)

  -- a start row puts its subject into its concept
  pub to_concept : (s : Start) → Leads axioms (row s) (HasConcept (Named (subject s)) (concept s))
  to_concept (OfConcept a b) = rows.itself (HasConcept (Named a) b)
  to_concept (OfRole a b q) = rows.onward (HasRole a b q) (HasRole a b q) (HasConcept (Named a) (basic.Exists q)) (rows.itself (HasRole a b q)) (d.has_some a b q)
  to_concept (OfAttr a v u) = rows.onward (HasAttr a v u) (HasAttr a v u) (HasConcept (Named a) (basic.Domain u)) (rows.itself (HasAttr a v u)) (d.has_domain a v u)

  pub impossible_start : (s : Start) → IsUnsatisfiable axioms (concept s) → Oppose axioms (row s) (row s)
  impossible_start s t =
      let x = HasConcept (Named (subject s)) (concept s) in
      oppose_before (row s) (row s) x x (to_concept s) (to_concept s) (impossible (Named (subject s)) (concept s) t)

  pub start_concept : (s : Start) (k : Basic) → ConceptReaches axioms (concept s) k → Leads axioms (row s) (HasConcept (Named (subject s)) k)
  start_concept s k h = leads_trans axioms (row s) (HasConcept (Named (subject s)) (concept s)) (HasConcept (Named (subject s)) k) (to_concept s) (leads_concept (Named (subject s)) (concept s) k h)

  start_role : (s : Start) (a b : List ℕ) (q r : RoleSide) → s ≡ OfRole a b q → RoleReaches axioms q r → Leads axioms (row s) (HasRole a b r)
  start_role s a b q r i h = subst (λ z. Leads axioms (row z) (HasRole a b r)) (sym i) (leads_role a b q r h)

  start_attr : (s : Start) (a : List ℕ) (v : Value) (u w : Term) → s ≡ OfAttr a v u → AttrReaches axioms u w → Leads axioms (row s) (HasAttr a v w)
  start_attr s a v u w i h = subst (λ z. Leads axioms (row z) (HasAttr a v w)) (sym i) (leads_attr a v u w h)

  -- start rows that collide oppose one another
  pub collide_opposes : (s t : Start) → Collide axioms s t → Oppose axioms (row s) (row t)
  collide_opposes s t (e.concepts b k i m h j) = (
    HasConcept (Named (subject s)) b,
    HasConcept (Named (subject s)) k,
    rows.concepts (Named (subject s)) b k m,
    start_concept s b h,
    subst (λ (z : List ℕ). Leads axioms (row t) (HasConcept (Named z) k)) (sym i) (start_concept t k j),
  )
  collide_opposes s t (e.roles a b q r v w i j m h l) = (HasRole a b v, HasRole a b w, rows.roles a b v w m, start_role s a b q v i h, start_role t a b r w j l)
  collide_opposes s t (e.attrs a x q r v w i j m h l) = (HasAttr a x v, HasAttr a x w, rows.attrs a x v w m, start_attr s a x q v i h, start_attr t a x r w j l)
  collide_opposes s t (e.partners a x y q r v i j m ne h l) = (HasRole a x v, HasRole a y v, rows.partners a x y v m ne, start_role s a x q v i h, start_role t a y r v j l)
  collide_opposes s t (e.values a x y q r v i j m ne h l) = (HasAttr a x v, HasAttr a y v, rows.values a x y v m ne, start_attr s a x q v i h, start_attr t a y r v j l)
  collide_opposes s t (e.range a x q r v k i j m ne h l) = (HasAttr a x v, HasAttr a x v, rows.range a x v k m ne, start_attr s a x q v i h, start_attr t a x r v j l)

  -- the row's value is of another datatype than a range above its attribute
  abbrev pub IsOut : Start → Type 0
  IsOut s = (a : List ℕ) × (x : Value) × (q : Term) × (v : Term) × (k : List ℕ) × (s ≡ OfAttr a x q) × Contains axioms (Range v k) × (x.datatype ≢ k) × AttrReaches axioms q v

  -- a row that collides with itself
  pub self_is : (s : Start) → Collide axioms s s → IsUnsatisfiable axioms (concept s) ⊎ IsOut s
  self_is s (e.concepts b k i m h j) = inl (concept s, e.itself (concept s), e.concepts (concept s) b k m h j)
  self_is s (e.roles a b q r v w i j m h l) =
      let same : r ≡ q = cc in
      inl (concept s, e.itself (concept s), subst (IsContradictory axioms) (sym (ap concept i)) (e.roles q v w m h (subst (λ z. RoleReaches axioms z w) same l)))
  self_is s (e.attrs a x q r v w i j m h l) =
      let same : r ≡ q = cc in
      inl (concept s, e.itself (concept s), subst (IsContradictory axioms) (sym (ap concept i)) (e.attrs q v w m h (subst (λ z. AttrReaches axioms z w) same l)))
  self_is s (e.partners a x y q r v i j m ne h l) = let same : x ≡ y = cc in absurd (ne same)
  self_is s (e.values a x y q r v i j m ne h l) = let same : x ≡ y = cc in absurd (ne same)
  self_is s (e.range a x q r v k i j m ne h l) = inr (a, x, q, v, k, i, m, ne, h)

  pub alone_is : (s : Start) → Oppose axioms (row s) (row s) → IsUnsatisfiable axioms (concept s) ⊎ IsOut s
  alone_is s h = ⊎_elim (λ t. inl t) (λ k. self_is s k) (opposed_is axioms s s h)

  pub empty_concept_is : (b : Basic) → IsEmptyConcept axioms b ↔ IsUnsatisfiable axioms b
  empty_concept_is b = (λ h. ⊎_elim (λ t. t) (λ (o : IsOut (OfConcept [] b)). cc) (alone_is (OfConcept [] b) (h [])), λ t a. impossible (Named a) b t)

  pub empty_role_is : (p : Term) → IsEmptyRole axioms p ↔ IsUnsatisfiable axioms (basic.Exists (Direct p))
  empty_role_is p = (
    λ h. ⊎_elim (λ t. t) (λ (o : IsOut (OfRole [] (0 ∷ []) (Direct p))). cc) (alone_is (OfRole [] (0 ∷ []) (Direct p)) (h [] (0 ∷ []) (λ e. cc))),
    λ t a b ne. impossible_start (OfRole a b (Direct p)) t,
  )

  abbrev of_type : List ℕ → Value
  of_type k = record { datatype = k; tag = []; text = [] }

  ranged_twice : (u : Term) (v w : Term) (k l : List ℕ) → Contains axioms (Range v k) → Contains axioms (Range w l) → k ≢ l → AttrReaches axioms u v → AttrReaches axioms u w → IsUnsatisfiable axioms (basic.Domain u)
  ranged_twice u v w k l m n ne h i = (basic.Domain u, e.itself (basic.Domain u), e.ranges u v w k l m n ne h i)

  out_of : (u : Term) (a : List ℕ) (x : Value) → IsOut (OfAttr a x u) → (v : Term) × (k : List ℕ) × Contains axioms (Range v k) × (x.datatype ≢ k) × AttrReaches axioms u v
  out_of u a x (b, y, q, v, k, i, m, ne, h) =
      let one : q ≡ u = cc in
      let two : y ≡ x = cc in
      (v, k, m, subst (λ (z : Value). z.datatype ≢ k) two ne, subst (λ z. AttrReaches axioms z v) one h)

  empty_attr_unsatisfiable : (u : Term) → IsEmptyAttr axioms u → IsUnsatisfiable axioms (basic.Domain u)
  empty_attr_unsatisfiable u h = ⊎_elim (λ t. t)
      (λ o.
      let one = out_of u [] (of_type []) o in
      ⊎_elim (λ t. t)
      (λ p. let two = out_of u [] (of_type one.1) p in ranged_twice u one.0 two.0 one.1 two.1 one.2 two.2 two.3 one.4 two.4)
      (alone_is (OfAttr [] (of_type one.1) u) (h [] (of_type one.1))))
      (alone_is (OfAttr [] (of_type []) u) (h [] (of_type [])))

  pub empty_attr_is : (u : Term) → IsEmptyAttr axioms u ↔ IsUnsatisfiable axioms (basic.Domain u)
  empty_attr_is u = (empty_attr_unsatisfiable u, λ t a v. impossible_start (OfAttr a v u) t)
