-- The answers come from the facts that the patterns of the entailers find, and these are few.
use Rattle.std.proofs.Common.{◌≡◌, ℕ, ◌<◌, ◌≤◌, ◌+◌, ◌*◌, Bool, true, List, [], ◌∷◌, ◌++◌, length, take, get_or, refl, sym, ◌∙◌, ap, subst, arith, inl, inr, ◌⊎◌, ⊎_elim}
use Rattle.std.specs.Prelude.{Contains, ◌↔◌, count_by, nat_eq}
use Rattle.std.proofs.lemmas.List.{take_all}
use Rattle.std.proofs.lemmas.List.Elements.{Contains-append_left, Contains-append_right, Contains-append_cases, Contains-push, Contains-push_cases}
use Rattle.std.proofs.lemmas.Bool.Decides.{eqb_tells}
use Rattle.dl_base.specs.declared.axioms.Axiom.{Axiom}
use Rattle.dl_base.specs.declared.patterns.Pattern.{Pattern}
use Rattle.dl_base.specs.declared.statements.Fact.{Fact}
use Rattle.dl_base.specs.Derivation.{InClosure, row_of}
use Rattle.dl_base.specs.FactOrder.{AreSorted}
use Rattle.dl_base.specs.Ontologies.{Theory, Knows}
use Rattle.dl_base.specs.Patterns.{Matches}
use Rattle.dl_base.specs.Picks.{Picks}
use Rattle.dl_base.specs.Updates.{Lists}
use Rattle.dl_base.proofs.Members.{nowhere, among}
use Rattle.dl_base.proofs.ClosureLaws.{derived_more, from_one}
use Rattle.dl_base.proofs.PicksLaws.{from_picks, into_picks}
use Rattle.dl_base.proofs.VocabularyLaws.{take_on}
use Rattle.conflict_rules.specs.Counts.{naming, pattern_term}
use Rattle.conflict_rules.proofs.Adding.{fact_term, same_term}
use Rattle.entail_guards.specs.Asking.{IsAsked}
use Rattle.entail_guards.specs.Matching.{EntailsMatch}
use Rattle.guard_eval.specs.Finding.{IsFound, CountsFinds, TellsMatches, total}
use Rattle.instance_query.specs.Answering.{IsAnswer, MeetsAsk, FollowsFromOne}

module _ (axioms : List Axiom) where
  pub follows_none : FollowsFromOne axioms [] []
  follows_none f = ((λ m. absurd (nowhere f m)), λ (g, m, h). absurd (nowhere g m))

  follows_more : (facts : List Fact) (g : Fact) (xs ys : List Fact) → Lists (InClosure axioms (g ∷ [])) ys → FollowsFromOne axioms facts xs → FollowsFromOne axioms (facts ++ g ∷ []) (xs ++ ys)
  follows_more facts g xs ys k h f = (
    (λ m. ⊎_elim
        (λ n. let (e, c, d) = (h f).0 n in (e, Contains-append_left facts (g ∷ []) e c, d))
        (λ n. (g, Contains-push facts g, (k.each f).0 n))
        (Contains-append_cases xs ys f m)),
    λ (e, c, d). ⊎_elim
        (λ n. Contains-append_left xs ys f ((h f).1 (e, n, d)))
        (λ n. Contains-append_right xs ys f ((k.each f).1 (subst (λ (z : Fact). InClosure axioms (z ∷ []) f) (sym n) d)))
        (Contains-push_cases facts g e c),
  )

  pub follows_next : (facts : List Fact) (i : ℕ) (g : Fact) (xs ys : List Fact) → i < length facts → g ≡ get_or facts i g → Lists (InClosure axioms (g ∷ [])) ys → FollowsFromOne axioms (take i facts) xs → FollowsFromOne axioms (take (i + 1) facts) (xs ++ ys)
  follows_next facts i g xs ys l at k h = subst (λ (us : List Fact). FollowsFromOne axioms us (xs ++ ys)) (sym (take_on facts i g l at)) (follows_more (take i facts) g xs ys k h)

  pub follows_end : (facts : List Fact) (i : ℕ) (xs : List Fact) → length facts ≤ i → FollowsFromOne axioms (take i facts) xs → FollowsFromOne axioms facts xs
  follows_end facts i xs past h = subst (λ (us : List Fact). FollowsFromOne axioms us xs) (take_all i facts past) h

module _ (theory : Theory) (held : List Fact) (p : Pattern) (patterns : List Pattern) (known : (f : Fact) → Contains held f → Knows theory f)
    (sound : (f : Fact) → IsAsked patterns f → EntailsMatch theory.axioms f p) (complete : (f : Fact) → Knows theory f → EntailsMatch theory.axioms f p → IsAsked patterns f) where
  -- what is found is what meets the ask
  pub met_is_found : (f : Fact) → MeetsAsk theory.axioms held p f ↔ IsFound patterns held f
  met_is_found f = ((λ (m, e). (m, complete f (known f m) e)), λ (m, a). (m, sound f a))

  pub answered : (met entailed matched answers : List Fact) → Lists (IsFound patterns held) met → FollowsFromOne theory.axioms met entailed → Picks (Matches p) entailed matched → AreSorted answers → ((f : Fact) → Contains answers f ↔ Contains matched f) → Lists (IsAnswer theory.axioms held p) answers
  answered met entailed matched answers found follows picks sorted same = record {
    sorted = sorted;
    each = λ f. (
      (λ m.
          let (c, q) = from_picks (Matches p) entailed matched f picks ((same f).0 m) in
          let (g, n, d) = (follows f).0 c in
          (derived_more theory.axioms (g ∷ []) held (among g held ((found.each g).0 n).0) (row_of f) d, q)),
      λ (h, q).
          let (g, n, d) = from_one theory.axioms held (row_of f) h in
          (same f).1 (into_picks (Matches p) entailed matched f picks ((follows f).1 (g, (found.each g).1 ((met_is_found g).0 (n, (f, d, q))), d)) q),
    );
  }

  tells : TellsMatches (λ f q. nat_eq (pattern_term q) (fact_term f))
  tells f q m = ⊎_elim (λ h. h.0) (λ h. absurd (h.1 (same_term q f m))) (eqb_tells (pattern_term q) (fact_term f))

  total_few : (few : (n : ℕ) → naming n patterns ≤ 2) (facts : List Fact) → total (λ f. naming (fact_term f) patterns) facts ≤ 2 * length facts
  total_few few [] = omega arith
  total_few few (f ∷ facts) = let a = few (fact_term f) in let b = total_few few facts in omega (arith, a, b)

  -- two look-ups a term, and each fact that meets the ask is given twice at most
  pub counted : (few : (n : ℕ) → naming n patterns ≤ 2) → length patterns ≤ 2 * length theory.terms → (old new : ℕ) → ((facts : List Fact) → Lists (IsFound patterns held) facts → CountsFinds patterns facts old new)
      → (met : List Fact) → Lists (MeetsAsk theory.axioms held p) met → new ≤ old + 2 * length theory.terms + 2 * length met
  counted few short old new counts met h =
      let found : Lists (IsFound patterns held) met = record { sorted = h.sorted; each = λ f. ((λ m. (met_is_found f).0 ((h.each f).0 m)), λ m. (h.each f).1 ((met_is_found f).1 m)) } in
      let steps : new ≤ old + length patterns + total (λ f. naming (fact_term f) patterns) met = counts met found (λ f q. nat_eq (pattern_term q) (fact_term f)) tells in
      let most = total_few few met in
      omega (arith, steps, most, short)
