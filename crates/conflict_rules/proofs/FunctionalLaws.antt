-- The marks of what is declared functional.
use Rattle.std.proofs.Common.{◌≡◌, ◌≢◌, ℕ, ◌<◌, ◌+◌, List, Bool, true, false, [], ◌∷◌, length, take, get_or, set, refl, sym, ◌∙◌, ap, subst, inl, inr, ◌⊎◌, ⊎_elim, arith, get_or-set_same, get_or-set_other}
use Rattle.std.specs.Prelude.{Contains, ◌↔◌}
use Rattle.std.proofs.lemmas.Bool.{false≢true, cases_lt}
use Rattle.std.proofs.lemmas.List.{get_or-replicate, get_or_past, length-replicate}
use Rattle.std.proofs.Common.{replicate}
use Rattle.std.proofs.lemmas.List.Elements.{All-contains, Contains-append_left, Contains-append_right, Contains-push_cases}
use Rattle.std.proofs.lemmas.Option.{slice_get_within}
use Rattle.dl_base.specs.declared.axioms.Axiom.{Axiom}
use Rattle.dl_base.specs.declared.axioms.Axiom.TheVariants.{FunctionalRole, FunctionalAttr}
use Rattle.dl_base.specs.declared.terms.Term.{Term}
use Rattle.dl_base.specs.declared.terms.Kind.TheVariants as kind
use Rattle.dl_base.specs.declared.terms.RoleSide.{RoleSide}
use Rattle.dl_base.specs.declared.terms.RoleSide.TheVariants.{Direct, Inverse}
use Rattle.dl_base.specs.Clash as clash
use Rattle.dl_base.specs.Ontologies.{Theory, KnowsAxiom, IsKnown}
use Rattle.dl_base.specs.Validity.{IsValid}
use Rattle.dl_base.proofs.Members.{here, nowhere}
use Rattle.dl_laws.specs.Meeting.{ShareFunctionalRole, ShareFunctionalAttr}
use Rattle.tbox_closure.proofs.LoopLaws.{take_on}
use Rattle.conflict_rules.specs.declared.functional.Functionality.{Functionality}
use Rattle.conflict_rules.specs.declared.functional.Functionality.TheVariants as form
use Rattle.conflict_rules.specs.Functional.{declared_of, IsSet, AreFunctional, AreFunctionalBelow}
use Rattle.conflict_rules.proofs.Bound.{roles_bound_same, attrs_bound_same}

pub none_set : (n k : ℕ) → ¬ IsSet (replicate {A = Bool} n false) k
none_set n k h = ⊎_elim
    (λ b. let e : get_or (replicate {A = Bool} n false) k false ≡ false = get_or-replicate n k false false b in false≢true (sym e ∙ h))
    (λ b. let len : length (replicate {A = Bool} n false) ≡ n = length-replicate n false in
    let e : get_or (replicate {A = Bool} n false) k false ≡ false = get_or_past (replicate n false) k false (omega (arith, len, b)) in false≢true (sym e ∙ h))
    (cases_lt k n)

-- one mark more
set_one : (marks : List Bool) (i k : ℕ) → i < length marks → IsSet (set marks i true) k ↔ ((k ≡ i) ⊎ IsSet marks k)
set_one marks i k l = ⊎_elim (λ b. other (omega (arith, b))) (λ b. ⊎_elim (λ a. other (omega (arith, a))) (λ a. same (omega (arith, a, b))) (cases_lt i k)) (cases_lt k i)
  where
    other : k ≢ i → IsSet (set marks i true) k ↔ ((k ≡ i) ⊎ IsSet marks k)
    other ne = let e = get_or-set_other marks i k true false ne in ((λ h. inr (sym e ∙ h)), (λ s. ⊎_elim (λ x. absurd (ne x)) (λ x. e ∙ x) s))

    same : k ≡ i → IsSet (set marks i true) k ↔ ((k ≡ i) ⊎ IsSet marks k)
    same x = ((λ h. inl x), (λ s. subst (λ (n : ℕ). IsSet (set marks i true) n) (sym x) (get_or-set_same marks i true false l)))

term_is : (s t : Term) → s.0 ≡ t.0 → s ≡ t
term_is s t h = ap (λ (n : ℕ). record { 0 = n }) h

declared_is : (kind : Functionality) (s t : Term) → declared_of kind s ≡ declared_of kind t → s ≡ t
declared_is form.OfSubjects s t h = cc
declared_is form.OfObjects s t h = cc
declared_is form.OfAttrs s t h = cc

pub functional_none : (kind : Functionality) (marks : List Bool) → ((k : ℕ) → ¬ IsSet marks k) → AreFunctional kind [] marks
functional_none kind marks none t = ((λ h. absurd (none t.0 h)), (λ m. absurd (nowhere (declared_of kind t) m)))

pub functional_more : (kind : Functionality) (axioms : List Axiom) (i : ℕ) (it : Axiom) (s : Term) (old new : List Bool) → i < length axioms → it ≡ get_or axioms i it → it ≡ declared_of kind s → s.0 < length old → new ≡ set old s.0 true
    → AreFunctional kind (take i axioms) old → AreFunctional kind (take (i + 1) axioms) new
functional_more kind axioms i it s old new l same is low grows before t = subst (λ (xs : List Axiom). IsSet new t.0 ↔ Contains xs (declared_of kind t)) (sym (take_on axioms i it l same)) (
  (λ h. ⊎_elim
      (λ x. Contains-append_right (take i axioms) (it ∷ []) (declared_of kind t) (subst (Contains (it ∷ [])) (is ∙ ap (declared_of kind) (term_is s t (sym x))) (here it [])))
      (λ x. Contains-append_left (take i axioms) (it ∷ []) (declared_of kind t) ((before t).0 x))
      ((set_one old s.0 t.0 low).0 (subst (λ (xs : List Bool). IsSet xs t.0) grows h))),
  (λ m. subst (λ (xs : List Bool). IsSet xs t.0) (sym grows) ((set_one old s.0 t.0 low).1 (⊎_elim
      (λ x. inr ((before t).1 x))
      (λ x. inl (ap (λ (z : Term). z.0) (declared_is kind t s (sym x ∙ is))))
      (Contains-push_cases (take i axioms) it (declared_of kind t) m)))),
)

pub functional_skip : (kind : Functionality) (axioms : List Axiom) (i : ℕ) (it : Axiom) (marks : List Bool) → i < length axioms → it ≡ get_or axioms i it → ((s : Term) → it ≢ declared_of kind s)
    → AreFunctional kind (take i axioms) marks → AreFunctional kind (take (i + 1) axioms) marks
functional_skip kind axioms i it marks l same none before t = subst (λ (xs : List Axiom). IsSet marks t.0 ↔ Contains xs (declared_of kind t)) (sym (take_on axioms i it l same)) (
  (λ h. Contains-append_left (take i axioms) (it ∷ []) (declared_of kind t) ((before t).0 h)),
  (λ m. ⊎_elim (λ x. (before t).1 x) (λ x. absurd (none t x)) (Contains-push_cases (take i axioms) it (declared_of kind t) m)),
)

-- the term of a known axiom is in range
pub functional_below : (theory : Theory) → IsKnown theory → (kind : Functionality) → AreFunctionalBelow kind theory.axioms (length theory.terms)
functional_below theory known form.OfSubjects t m = let k = All-contains (KnowsAxiom theory) theory.axioms (FunctionalRole (Direct t)) known m in slice_get_within theory.terms t.0 (k.0, kind.Role) k.1
functional_below theory known form.OfObjects t m = let k = All-contains (KnowsAxiom theory) theory.axioms (FunctionalRole (Inverse t)) known m in slice_get_within theory.terms t.0 (k.0, kind.Role) k.1
functional_below theory known form.OfAttrs t m = let k = All-contains (KnowsAxiom theory) theory.axioms (FunctionalAttr t) known m in slice_get_within theory.terms t.0 (k.0, kind.Attr) k.1

-- what two share is one of them
pub shared_role : (axioms : List Axiom) → IsValid axioms → (q r : RoleSide) → ShareFunctionalRole axioms q r ↔ ((q ≡ r) × Contains axioms (FunctionalRole q))
shared_role axioms valid q r = (
  λ h. let stays = roles_bound_same axioms valid q h.2.0 (h.0, h.1, (h.2.0, h.2.1, h.2.2, clash.itself h.2.0)) in
      (roles_bound_same axioms valid q r h, subst (λ (z : RoleSide). Contains axioms (FunctionalRole z)) (sym stays) (subst (Contains axioms) h.2.1 h.1)),
  λ (e, m). (FunctionalRole q, m, (q, refl, clash.itself q, subst (λ (z : RoleSide). clash.RoleReaches axioms z q) e (clash.itself q))),
)

pub shared_attr : (axioms : List Axiom) → IsValid axioms → (u w : Term) → ShareFunctionalAttr axioms u w ↔ ((u ≡ w) × Contains axioms (FunctionalAttr u))
shared_attr axioms valid u w = (
  λ h. let stays = attrs_bound_same axioms valid u h.2.0 (h.0, h.1, (h.2.0, h.2.1, h.2.2, clash.itself h.2.0)) in
      (attrs_bound_same axioms valid u w h, subst (λ (z : Term). Contains axioms (FunctionalAttr z)) (sym stays) (subst (Contains axioms) h.2.1 h.1)),
  λ (e, m). (FunctionalAttr u, m, (u, refl, clash.itself u, subst (λ (z : Term). clash.AttrReaches axioms z u) e (clash.itself u))),
)
