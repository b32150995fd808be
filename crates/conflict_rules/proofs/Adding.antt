-- Lists of guards, a pattern at a time.
use Rattle.std.proofs.Common.{◌≡◌, ◌≢◌, ℕ, ◌<◌, ◌≤◌, ◌+◌, cond, length, List, [], ◌∷◌, ◌++◌, refl, sym, ap, subst, inl, inr, ◌⊎◌, ⊎_elim, arith}
use Rattle.std.specs.Prelude.{Contains, ◌↔◌, nat_eq}
use Rattle.std.proofs.lemmas.Bool.{cases_lt}
use Rattle.std.proofs.lemmas.Nat.{mul-le}
use Rattle.std.proofs.lemmas.List.{length_push}
use Rattle.std.proofs.lemmas.Bool.Decides.{eqb_tells}
use Rattle.std.proofs.lemmas.List.Sums.{sum_by-append}
use Rattle.std.proofs.lemmas.List.Elements.{Contains-append_left, Contains-append_right, Contains-push_cases}
use Rattle.dl_base.specs.declared.axioms.Axiom.{Axiom}
use Rattle.dl_base.specs.declared.terms.Term.{Term}
use Rattle.dl_base.specs.declared.terms.Basic.{Basic}
use Rattle.dl_base.specs.declared.terms.Basic.TheVariants as basic
use Rattle.dl_base.specs.declared.patterns.Pattern.{Pattern}
use Rattle.dl_base.specs.declared.patterns.Pattern.TheVariants as asked
use Rattle.dl_base.specs.declared.statements.Fact.{Fact}
use Rattle.dl_base.specs.declared.statements.Fact.TheVariants as fact
use Rattle.dl_base.specs.declared.terms.Kind.TheVariants as kind
use Rattle.dl_base.specs.Ontologies.{Theory, Knows}
use Rattle.std.proofs.lemmas.Option.{slice_get_within}
use Rattle.dl_base.specs.Patterns.{Matches}
use Rattle.dl_base.specs.Clash.{HasClash}
use Rattle.dl_base.proofs.Members.{here, alone}
use Rattle.dl_laws.specs.Rows.{Start, OfConcept}
use Rattle.conflict_rules.specs.Guards.{IsGuard}
use Rattle.conflict_rules.specs.Counts.{pattern_term, one_if, AreAdded, HasNoGuard, IsGuardAt, AreGuardsBelow}
use Rattle.conflict_rules.proofs.Guarding.{guards_exact}

pub one_tells : (m n : ℕ) → ((one_if m n ≡ 1) × (m ≡ n)) ⊎ ((one_if m n ≡ 0) × (m ≢ n))
one_tells m n = ⊎_elim (λ h. inl (ap (λ b. cond b 1 0) h.0, h.1)) (λ h. inr (ap (λ b. cond b 1 0) h.0, h.1)) (eqb_tells m n)

pub added_one : (Q : Pattern → Type 0) (it : Pattern) (old : List Pattern) → Q it → ((p : Pattern) → Q p → p ≡ it) → AreAdded Q (pattern_term it) 1 old (old ++ it ∷ [])
added_one Q it old q one = record {
  each = λ p. (
    (λ m. ⊎_elim (λ h. inl h) (λ h. inr (subst Q h q)) (Contains-push_cases old it p m)),
    (λ s. ⊎_elim (λ h. Contains-append_left old (it ∷ []) p h) (λ h. Contains-append_right old (it ∷ []) p (subst (Contains (it ∷ [])) (sym (one p h)) (here it []))) s),
  );
  few = λ n. let e = sum_by-append (λ (p : Pattern). cond (nat_eq (pattern_term p) n) 1 0) old (it ∷ []) in omega (arith, e);
  size = let e = length_push old it in omega (arith, e);
}

pub added_none : (Q : Pattern → Type 0) (m : ℕ) (old : List Pattern) → ((p : Pattern) → ¬ Q p) → AreAdded Q m 1 old old
added_none Q m old none = record {
  each = λ p. ((λ h. inl h), (λ s. ⊎_elim (λ h. h) (λ h. absurd (none p h)) s));
  few = λ n. omega arith;
  size = omega arith;
}

pub added_both : (Q R : Pattern → Type 0) (m j k : ℕ) (a b c : List Pattern) → AreAdded Q m j a b → AreAdded R m k b c → AreAdded (λ p. Q p ⊎ R p) m (j + k) a c
added_both Q R m j k a b c one two = record {
  each = λ p. (
    (λ h. ⊎_elim (λ x. ⊎_elim (λ y. inl y) (λ y. inr (inl y)) ((one.each p).0 x)) (λ x. inr (inr x)) ((two.each p).0 h)),
    (λ s. ⊎_elim (λ x. (two.each p).1 (inl ((one.each p).1 (inl x)))) (λ t. ⊎_elim (λ x. (two.each p).1 (inl ((one.each p).1 (inr x)))) (λ x. (two.each p).1 (inr x)) t) s),
  );
  few = λ n. let x = one.few n in let y = two.few n in ⊎_elim
      (λ (t : (one_if m n ≡ 1) × (m ≡ n)). let e : one_if m n ≡ 1 = t.0 in let z = rw e at x in let w = rw e at y in rw e (omega (arith, z, w)))
      (λ (t : (one_if m n ≡ 0) × (m ≢ n)). let e : one_if m n ≡ 0 = t.0 in let z = rw e at x in let w = rw e at y in rw e (omega (arith, z, w)))
      (one_tells m n);
  size = omega (arith, one.size, two.size);
}

-- the loop over the terms
module _ (Q : Term → Pattern → Type 0) (most : ℕ) where
  below_none : AreGuardsBelow Q most 0 []
  below_none = record {
    each = λ p. ((λ h. absurd (omega (arith, h.1))), (λ h. absurd (omega (arith, h.1))));
    few = λ n. omega arith;
    none = λ n l. refl;
    size = omega arith;
  }

  term_at : (t : Term) (n : ℕ) → t.0 ≡ n → t ≡ record { 0 = n }
  term_at t n h = ap (λ (k : ℕ). record { 0 = k }) h

  below_next : (number : ℕ) (old new : List Pattern) → AreGuardsBelow Q most number old → AreAdded (Q (record { 0 = number })) number most old new → AreGuardsBelow Q most (number + 1) new
  below_next number old new h add = record {
    each = λ p. (
      (λ m. ⊎_elim (λ x. let t = (h.each p).0 x in (t.0, omega (arith, t.1), t.2)) (λ x. (record { 0 = number }, omega arith, x)) ((add.each p).0 m)),
      (λ (t, l, q). (add.each p).1 (⊎_elim
          (λ less. inl ((h.each p).1 (t, less, q)))
          (λ least. let e : t.0 ≡ number = omega (arith, l, least) in inr (subst (λ (z : Term). Q z p) (term_at t number e) q))
          (cases_lt t.0 number))),
    );
    few = λ n. let x = add.few n in let y = h.few n in ⊎_elim
        (λ t. let e : one_if number n ≡ 1 = t.0 in let z = rw e at x in let same : number ≤ n = omega (arith, t.1) in let w = h.none n same in omega (arith, z, w))
        (λ t. let e : one_if number n ≡ 0 = t.0 in let z = rw e at x in omega (arith, z, y))
        (one_tells number n);
    none = λ n l. let x = add.few n in let below : number ≤ n = omega (arith, l) in let y = h.none n below in ⊎_elim
        (λ t. absurd (omega (arith, t.1, l)))
        (λ t. let e : one_if number n ≡ 0 = t.0 in let z = rw e at x in omega (arith, z, y))
        (one_tells number n);
    size = omega (arith, add.size, h.size);
  }

  -- terms without a guard may be passed over
  pub below_gap : (from to : ℕ) (guards : List Pattern) → from ≤ to → AreGuardsBelow Q most from guards → HasNoGuard Q from to → AreGuardsBelow Q most to guards
  below_gap from to guards le h free = record {
    each = λ p. (
      (λ m. let t = (h.each p).0 m in (t.0, omega (arith, t.1, le), t.2)),
      (λ (t, l, q). ⊎_elim (λ less. (h.each p).1 (t, less, q)) (λ least. absurd (free t least l p q)) (cases_lt t.0 from)),
    );
    few = h.few;
    none = λ n l. h.none n (omega (arith, l, le));
    size = let e = mul-le most from most to (omega arith) le in omega (arith, e, h.size);
  }

  pub below_first : (next : ℕ) → HasNoGuard Q 0 next → AreGuardsBelow Q most next []
  below_first next free = below_gap 0 next [] (omega arith) below_none free

  pub below_on : (number next : ℕ) (old new : List Pattern) → AreGuardsBelow Q most number old → AreAdded (Q (record { 0 = number })) number most old new
      → number + 1 ≤ next → HasNoGuard Q (number + 1) next → AreGuardsBelow Q most next new
  below_on number next old new h add le free = below_gap (number + 1) next new le (below_next number old new h add) free

abbrev pub fact_term : Fact → ℕ
fact_term (fact.Class m c) = m.0
fact_term (fact.Role m c d) = m.0
fact_term (fact.Attr m c z) = m.0

pub same_term : (p : Pattern) (g : Fact) → Matches p g → pattern_term p ≡ fact_term g
same_term (asked.Class n) (fact.Class m c) j = ap (λ (t : Term). t.0) j
same_term (asked.Class n) (fact.Role m c d) j = absurd j
same_term (asked.Class n) (fact.Attr m c z) j = absurd j
same_term (asked.ClassOf n a) (fact.Class m c) j = ap (λ (t : Term). t.0) j.0
same_term (asked.ClassOf n a) (fact.Role m c d) j = absurd j
same_term (asked.ClassOf n a) (fact.Attr m c z) j = absurd j
same_term (asked.Role n) (fact.Class m c) j = absurd j
same_term (asked.Role n) (fact.Role m c d) j = ap (λ (t : Term). t.0) j
same_term (asked.Role n) (fact.Attr m c z) j = absurd j
same_term (asked.RoleFrom n a) (fact.Class m c) j = absurd j
same_term (asked.RoleFrom n a) (fact.Role m c d) j = ap (λ (t : Term). t.0) j.0
same_term (asked.RoleFrom n a) (fact.Attr m c z) j = absurd j
same_term (asked.RoleTo n b) (fact.Class m c) j = absurd j
same_term (asked.RoleTo n b) (fact.Role m c d) j = ap (λ (t : Term). t.0) j.0
same_term (asked.RoleTo n b) (fact.Attr m c z) j = absurd j
same_term (asked.RoleBoth n x y) (fact.Class m c) j = absurd j
same_term (asked.RoleBoth n x y) (fact.Role m c d) j = ap (λ (t : Term). t.0) j.0
same_term (asked.RoleBoth n x y) (fact.Attr m c z) j = absurd j
same_term (asked.RoleFromExcept n a b) (fact.Class m c) j = absurd j
same_term (asked.RoleFromExcept n a b) (fact.Role m c d) j = ap (λ (t : Term). t.0) j.0
same_term (asked.RoleFromExcept n a b) (fact.Attr m c z) j = absurd j
same_term (asked.RoleToExcept n a b) (fact.Class m c) j = absurd j
same_term (asked.RoleToExcept n a b) (fact.Role m c d) j = ap (λ (t : Term). t.0) j.0
same_term (asked.RoleToExcept n a b) (fact.Attr m c z) j = absurd j
same_term (asked.Attr n) (fact.Class m c) j = absurd j
same_term (asked.Attr n) (fact.Role m c d) j = absurd j
same_term (asked.Attr n) (fact.Attr m c z) j = ap (λ (t : Term). t.0) j
same_term (asked.AttrOf n a) (fact.Class m c) j = absurd j
same_term (asked.AttrOf n a) (fact.Role m c d) j = absurd j
same_term (asked.AttrOf n a) (fact.Attr m c z) j = ap (λ (t : Term). t.0) j.0
same_term (asked.AttrValue n v) (fact.Class m c) j = absurd j
same_term (asked.AttrValue n v) (fact.Role m c d) j = absurd j
same_term (asked.AttrValue n v) (fact.Attr m c z) j = ap (λ (t : Term). t.0) j.0
same_term (asked.AttrBoth n a v) (fact.Class m c) j = absurd j
same_term (asked.AttrBoth n a v) (fact.Role m c d) j = absurd j
same_term (asked.AttrBoth n a v) (fact.Attr m c z) j = ap (λ (t : Term). t.0) j.0
same_term (asked.AttrOfExcept n a v) (fact.Class m c) j = absurd j
same_term (asked.AttrOfExcept n a v) (fact.Role m c d) j = absurd j
same_term (asked.AttrOfExcept n a v) (fact.Attr m c z) j = ap (λ (t : Term). t.0) j.0

pub in_range : (theory : Theory) (g : Fact) → Knows theory g → fact_term g < length theory.terms
in_range theory (fact.Class m c) (name, h) = slice_get_within theory.terms m.0 (name, kind.Class) h
in_range theory (fact.Role m c d) (name, h) = slice_get_within theory.terms m.0 (name, kind.Role) h
in_range theory (fact.Attr m c z) (name, h) = slice_get_within theory.terms m.0 (name, kind.Attr) h

module _ (axioms : List Axiom) (a : List ℕ) (b : Basic) where
  is_guard : (t : Term) (p : Pattern) → IsGuardAt axioms a b t p → IsGuard axioms (OfConcept a b) p
  is_guard t p (inl (e, h)) = subst (IsGuard axioms (OfConcept a b)) (sym e) (refl, h)
  is_guard t p (inr (inl (e, h))) = subst (IsGuard axioms (OfConcept a b)) (sym e) (refl, h)
  is_guard t p (inr (inr (inl (e, h)))) = subst (IsGuard axioms (OfConcept a b)) (sym e) (refl, h)
  is_guard t p (inr (inr (inr (e, h)))) = subst (IsGuard axioms (OfConcept a b)) (sym e) (refl, h)

  guard_at : (p : Pattern) → IsGuard axioms (OfConcept a b) p → (t : Term) × (pattern_term p ≡ t.0) × IsGuardAt axioms a b t p
  guard_at (asked.Class n) h = absurd h
  guard_at (asked.ClassOf n x) (i, h) = (n, refl, inl (ap (asked.ClassOf n) i, h))
  guard_at (asked.Role n) h = absurd h
  guard_at (asked.RoleFrom n x) (i, h) = (n, refl, inr (inl (ap (asked.RoleFrom n) i, h)))
  guard_at (asked.RoleTo n x) (i, h) = (n, refl, inr (inr (inl (ap (asked.RoleTo n) i, h))))
  guard_at (asked.RoleBoth n x y) (q, inl (e, h)) = cc
  guard_at (asked.RoleBoth n x y) (q, inr (e, h)) = cc
  guard_at (asked.RoleFromExcept n x y) (q, e, h) = cc
  guard_at (asked.RoleToExcept n x y) (q, e, h) = cc
  guard_at (asked.Attr n) h = absurd h
  guard_at (asked.AttrOf n x) (i, h) = (n, refl, inr (inr (inr (ap (asked.AttrOf n) i, h))))
  guard_at (asked.AttrValue n v) h = absurd h
  guard_at (asked.AttrBoth n x v) (u, e, h) = cc
  guard_at (asked.AttrOfExcept n x v) (u, e, h) = cc

-- the guards of a class fact
pub class_guards : (theory : Theory) (k : Term) (a : List ℕ) (guards : List Pattern) → AreGuardsBelow (IsGuardAt theory.axioms a (basic.Class k)) 4 (length theory.terms) guards
    → ¬ HasClash theory.axioms (fact.Class k a ∷ []) → (g : Fact) → Knows theory g → ¬ HasClash theory.axioms (g ∷ [])
    → ((p : Pattern) × Contains guards p × Matches p g) ↔ HasClash theory.axioms (fact.Class k a ∷ g ∷ [])
class_guards theory k a guards h one g knows two =
    let law = guards_exact theory.axioms (fact.Class k a) g one two in
    let s : Start = OfConcept a (basic.Class k) in (
      (λ (p, m, j). let t = (h.each p).0 m in law.0 (p, (s, here s [], is_guard theory.axioms a (basic.Class k) t.0 p t.2), j)),
      (λ c.
          let q = law.1 c in
          let t = guard_at theory.axioms a (basic.Class k) q.0 (subst (λ (z : Start). IsGuard theory.axioms z q.0) (sym (alone s q.1.0 q.1.1)) q.1.2) in
          let same = same_term q.0 g q.2 in
          let within = in_range theory g knows in
          (q.0, (h.each q.0).1 (t.0, omega (arith, t.1, same, within), t.2), q.2)),
    )
