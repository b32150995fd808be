-- Facts that clash with a given one, as a set is looked up for them.
use Rattle.std.proofs.Common.{◌≡◌, ℕ, ◌<◌, ◌≤◌, ◌+◌, ◌*◌, Bool, true, false, List, [], ◌∷◌, length, get_or, refl, sym, ◌∙◌, subst, inl, inr, ◌⊎◌, ⊎_elim, arith}
use Rattle.std.specs.Prelude.{◌↔◌, ◌==◌, Contains, Some, slice_get}
use Rattle.std.proofs.Math.Nat.{mul-add, mul-le-mul_left}
use Rattle.std.specs.List.Sorted.{IsStrictlySortedBy}
use Rattle.std.proofs.lemmas.Bool.{false≢true, eqb-true, eq-eqb}
use Rattle.dl_base.specs.declared.axioms.Axiom.{Axiom}
use Rattle.dl_base.specs.declared.patterns.Pattern.{Pattern}
use Rattle.dl_base.specs.declared.statements.Fact.{Fact}
use Rattle.dl_base.specs.Clash.{HasClash, IsConsistent}
use Rattle.dl_base.specs.IllFormed.{ClashAt}
use Rattle.dl_base.specs.FactOrder.{AreSorted}
use Rattle.dl_base.specs.Ontologies.{Theory, Knows}
use Rattle.dl_base.specs.Updates.{Lists}
use Rattle.dl_base.proofs.ClashLaws.{clash_more}
use Rattle.dl_base.proofs.Members.{here, among, beside, nowhere}
use Rattle.entail_guards.specs.Asking.{IsAsked}
use Rattle.guard_eval.specs.Finding.{IsFound, CountsFinds}
use Rattle.update_engine.specs.Judging.{NoneAlone}
use Rattle.update_engine.specs.Lookups.{IsSound, ClashesBeside, AreFew, HasPartner}
use Rattle.update_engine.proofs.JudgeLaws.{at_place, same_at}
use Rattle.update_engine.proofs.LookupLaws.{clash_swap, names_term, term_tells}
use Rattle.update_engine.proofs.StepLaws.{member_of, place_in}

some_there : (xs : List Fact) → ¬ (length xs ≡ 0) → (f : Fact) × Contains xs f
some_there [] n = absurd (n refl)
some_there (x ∷ xs) n = (x, here x xs)

none_there : (xs : List Fact) (f : Fact) → length xs ≡ 0 → ¬ Contains xs f
none_there xs f e m = let within : m.0 < length xs = m.1 in absurd (omega (arith, e, within))

pub is_none : (xs : List Fact) (b : Bool) → b ≡ (length xs == 0) → b ≡ true → length xs ≡ 0
is_none xs b e t = eqb-true (length xs) 0 (sym e ∙ t)

pub is_some : (xs : List Fact) (b : Bool) → b ≡ (length xs == 0) → b ≡ false → ¬ (length xs ≡ 0)
is_some xs b e f k = false≢true (sym f ∙ e ∙ eq-eqb (length xs) 0 k)

nothing_sorted : AreSorted []
unfolding IsStrictlySortedBy
nothing_sorted = tt

module _ (theory : Theory) (held : List Fact) (given : Fact) (patterns : List Pattern) (sound : (f : Fact) → Contains held f → IsSound theory f)
    (asks : (f : Fact) → IsSound theory f → IsAsked patterns f ↔ ClashesBeside theory.axioms given f) where
  -- a partner is found
  pub partner_found : (partners : List Fact) → Lists (IsFound patterns held) partners → HasPartner theory.axioms held given → ¬ (length partners ≡ 0)
  partner_found partners h (f, m, clash) e = none_there partners f e ((h.each f).1 (m, (asks f (sound f m)).1 clash))

  -- what is found is a partner
  pub found_partner : (partners : List Fact) → Lists (IsFound patterns held) partners → ¬ (length partners ≡ 0) → HasPartner theory.axioms held given
  found_partner partners h n =
      let some = some_there partners n in
      let (m, a) = (h.each some.0).0 some.1 in
      (some.0, m, (asks some.0 (sound some.0 m)).0 a)

  -- where there is no partner, only the look-ups are counted
  pub none_counted : (old new : ℕ) → AreFew (length theory.terms) 1 patterns → ((facts : List Fact) → Lists (IsFound patterns held) facts → CountsFinds patterns facts old new)
      → (¬ HasPartner theory.axioms held given) → new ≤ old + 8 * length theory.terms
  none_counted old new few counts none =
      let nothing : Lists (IsFound patterns held) [] = record {
        sorted = nothing_sorted;
        each = λ f. ((λ m. absurd (nowhere f m)), λ (m, a). absurd (none (f, m, (asks f (sound f m)).0 a)));
      } in
      let steps : new ≤ old + length patterns + 0 = counts [] nothing names_term term_tells in
      let size = few.size in
      omega (arith, steps, size)

module _ (theory : Theory) (held facts : List Fact) (same : (f : Fact) → Contains held f ↔ Contains facts f) where
  -- the facts of the set are sound, as all facts are known and none clashes by itself
  pub held_sound : NoneAlone theory.axioms facts → ((f : Fact) → Contains facts f → Knows theory f) → (f : Fact) → Contains held f → IsSound theory f
  held_sound alone known f m =
      let n = (same f).0 m in
      let p = place_in facts f n in
      (known f n, λ h. alone p.0 (f, p.2, h))

  -- consistent facts have no partners
  pub no_partners : IsConsistent theory.axioms facts → (given : Fact) → Contains facts given → ¬ HasPartner theory.axioms held given
  no_partners consistent given m (f, n, h) = consistent (clash_more theory.axioms (f ∷ given ∷ []) facts (beside f (given ∷ []) facts ((same f).0 n) (among given facts m)) h)

  -- a fact without a partner clashes with none at any place
  pub no_pair_at : (i : ℕ) (given : Fact) → i < length facts → given ≡ get_or facts i given → (¬ HasPartner theory.axioms held given) → (m : ℕ) → ¬ ClashAt theory.axioms facts i m
  no_pair_at i given l e none m h =
      let is = same_at facts i h.0 given h.3 (at_place facts i given l e) in
      let clash = subst (λ (f : Fact). HasClash theory.axioms (f ∷ h.1 ∷ [])) is h.5 in
      none (h.1, (same h.1).1 (member_of facts m h.1 h.4), clash_swap theory.axioms given h.1 clash)

-- so many steps for one fact more
pub counted_next : (terms place old mid new : ℕ) → mid ≤ old + 8 * terms * place → new ≤ mid + 8 * terms → new ≤ old + 8 * terms * (place + 1)
counted_next terms place old mid new h k = let e = mul-add (8 * terms) place 1 in omega (arith, e, h, k)

-- so many steps are within those for all facts
pub counted_within : (terms place all old new : ℕ) → place ≤ all → new ≤ old + 8 * terms * place → new ≤ old + 8 * terms * all
counted_within terms place all old new l h = let e = mul-le-mul_left (8 * terms) l in omega (arith, e, h)
