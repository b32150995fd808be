-- The steps of the loops that gather patterns, and what is found by these.
use Rattle.std.proofs.Common.{◌≡◌, ℕ, ◌<◌, ◌≤◌, ◌+◌, ◌*◌, Bool, true, cond, List, [], ◌∷◌, ◌++◌, length, take, get_or, sym, ◌∙◌, ap, subst, inl, inr, ◌⊎◌, ⊎_elim, arith}
use Rattle.std.specs.Prelude.{◌↔◌, Contains, count_by, nat_eq}
use Rattle.std.proofs.Math.Nat.{mul-add, mul-suc}
use Rattle.std.proofs.Math.Seq.{take-length}
use Rattle.std.proofs.lemmas.Bool.Decides.{eqb_tells}
use Rattle.std.proofs.lemmas.List.{length-append}
use Rattle.std.proofs.lemmas.List.Sums.{sum_by-append}
use Rattle.std.proofs.lemmas.List.Elements.{Contains-append_left, Contains-append_right, Contains-append_cases}
use Rattle.dl_base.specs.declared.axioms.Axiom.{Axiom}
use Rattle.dl_base.specs.declared.patterns.Pattern.{Pattern}
use Rattle.dl_base.specs.declared.statements.Fact.{Fact}
use Rattle.dl_base.specs.Clash.{HasClash}
use Rattle.dl_base.specs.Ontologies.{Theory}
use Rattle.dl_base.specs.Updates.{Lists, Meets, IsRemoved}
use Rattle.dl_base.proofs.ClashLaws.{clash_more}
use Rattle.dl_base.proofs.Members.{here, there, among, beside, alone}
use Rattle.conflict_rules.specs.Counts.{naming, pattern_term}
use Rattle.conflict_rules.proofs.Adding.{fact_term, same_term}
use Rattle.entail_guards.specs.Asking.{IsAsked}
use Rattle.guard_eval.specs.Finding.{IsFound, CountsFinds, TellsMatches, total}
use Rattle.tbox_closure.proofs.LoopLaws.{take_on}
use Rattle.update_engine.specs.Counting.{most_to_find}
use Rattle.update_engine.specs.Lookups.{IsSound, AskFor, AreFew}

pub asked_left : (ps qs : List Pattern) (f : Fact) → IsAsked ps f → IsAsked (ps ++ qs) f
asked_left ps qs f h = (h.0, Contains-append_left ps qs h.0 h.1, h.2)

pub asked_right : (ps qs : List Pattern) (f : Fact) → IsAsked qs f → IsAsked (ps ++ qs) f
asked_right ps qs f h = (h.0, Contains-append_right ps qs h.0 h.1, h.2)

pub asked_cases : (ps qs : List Pattern) (f : Fact) → IsAsked (ps ++ qs) f → IsAsked ps f ⊎ IsAsked qs f
asked_cases ps qs f h = ⊎_elim (λ m. inl (h.0, m, h.2)) (λ m. inr (h.0, m, h.2)) (Contains-append_cases ps qs h.0 h.1)

module _ (theory : Theory) (R : Fact → Fact → Type 0) (xs : List Fact) where
  pub ask_none : AskFor theory R (take 0 xs) []
  ask_none f s = ((λ h. absurd (omega (arith, h.1.1))), λ h. absurd (omega (arith, h.1.1)))

  pub ask_more : (i : ℕ) (x : Fact) (ps qs : List Pattern) → i < length xs → x ≡ get_or xs i x → AskFor theory R (take i xs) ps
      → ((f : Fact) → IsSound theory f → IsAsked qs f ↔ R x f) → AskFor theory R (take (i + 1) xs) (ps ++ qs)
  ask_more i x ps qs l e before at f s = subst (λ (zs : List Fact). IsAsked (ps ++ qs) f ↔ ((y : Fact) × Contains zs y × R y f)) (sym (take_on xs i x l e)) (
    (λ h. ⊎_elim
        (λ a. let w = (before f s).0 a in (w.0, Contains-append_left (take i xs) (x ∷ []) w.0 w.1, w.2))
        (λ a. (x, Contains-append_right (take i xs) (x ∷ []) x (here x []), (at f s).0 a))
        (asked_cases ps qs f h)),
    λ w. ⊎_elim
        (λ k. asked_left ps qs f ((before f s).1 (w.0, k, w.2)))
        (λ k. asked_right ps qs f ((at f s).1 (subst (λ z. R z f) (sym (alone x w.0 k)) w.2)))
        (Contains-append_cases (take i xs) (x ∷ []) w.0 w.1),
  )

  pub ask_end : (i : ℕ) (ps : List Pattern) → i ≡ length xs → AskFor theory R (take i xs) ps → AskFor theory R xs ps
  ask_end i ps e h = subst (λ zs. AskFor theory R zs ps) (ap (λ n. take n xs) e ∙ take-length xs) h

module _ (terms : ℕ) where
  pub few_none : AreFew terms 0 []
  few_none = record { few = λ n. omega arith; size = omega arith }

  pub few_both : (j k : ℕ) (ps qs : List Pattern) → AreFew terms j ps → AreFew terms k qs → AreFew terms (j + k) (ps ++ qs)
  few_both j k ps qs a b = record {
    few = λ n. let e = sum_by-append (λ (p : Pattern). cond (nat_eq (pattern_term p) n) 1 0) ps qs in let x = a.few n in let y = b.few n in omega (arith, e, x, y);
    size = let e = mul-add (8 * terms) j k in let l = length-append ps qs in let x = a.size in let y = b.size in omega (arith, e, l, x, y);
  }

  pub few_end : (i n : ℕ) (ps : List Pattern) → i ≡ n → AreFew terms i ps → AreFew terms n ps
  few_end i n ps e h = subst (λ (k : ℕ). AreFew terms k ps) e h

-- two facts clash in either order
pub clash_swap : (axioms : List Axiom) (f g : Fact) → HasClash axioms (f ∷ g ∷ []) → HasClash axioms (g ∷ f ∷ [])
clash_swap axioms f g = clash_more axioms (f ∷ g ∷ []) (g ∷ f ∷ []) (beside f (g ∷ []) (g ∷ f ∷ []) (there g (f ∷ []) f (here f [])) (among g (g ∷ f ∷ []) (here g (f ∷ []))))

-- together no more than so many for each fact
pub total_each : (w : Fact → ℕ) (k : ℕ) → ((f : Fact) → w f ≤ k) → (facts : List Fact) → total w facts ≤ k * length facts
total_each w k most [] = omega arith
total_each w k most (f ∷ facts) =
    let one = most f in
    let rest = total_each w k most facts in
    let e = mul-suc k (length facts) in
    omega (arith, one, rest, e)

-- whether the pattern names the term of the fact
abbrev pub names_term : Fact → Pattern → Bool
names_term f p = nat_eq (pattern_term p) (fact_term f)

pub term_tells : TellsMatches names_term
term_tells f p m = ⊎_elim (λ h. h.0) (λ h. absurd (h.1 (same_term p f m))) (eqb_tells (pattern_term p) (fact_term f))

module _ (theory : Theory) (held inserts deletes : List Fact) (patterns : List Pattern) (sound : (f : Fact) → Contains held f → IsSound theory f)
    (asks : (f : Fact) → IsSound theory f → IsAsked patterns f ↔ Meets theory.axioms inserts deletes f) where
  removed_is_found : (f : Fact) → IsRemoved theory.axioms held inserts deletes f ↔ IsFound patterns held f
  removed_is_found f = ((λ (m, h). (m, (asks f (sound f m)).1 h)), λ (m, a). (m, (asks f (sound f m)).0 a))

  -- what is found is what meets
  pub found_is_removed : (met : List Fact) → Lists (IsFound patterns held) met → Lists (IsRemoved theory.axioms held inserts deletes) met
  found_is_removed met h = record { sorted = h.sorted; each = λ f. ((λ m. (removed_is_found f).1 ((h.each f).0 m)), λ m. (h.each f).1 ((removed_is_found f).0 m)) }

  -- a look-up for each pattern, and each fact that meets is given eight times at most for each fact of the request
  pub found_counted : (r old new : ℕ) → AreFew (length theory.terms) r patterns → ((facts : List Fact) → Lists (IsFound patterns held) facts → CountsFinds patterns facts old new)
      → (met : List Fact) → Lists (IsRemoved theory.axioms held inserts deletes) met → new ≤ old + most_to_find (length theory.terms) r (length met)
  found_counted r old new h counts met lists =
      let found : Lists (IsFound patterns held) met = record { sorted = lists.sorted; each = λ f. ((λ m. (removed_is_found f).0 ((lists.each f).0 m)), λ m. (lists.each f).1 ((removed_is_found f).1 m)) } in
      let steps : new ≤ old + length patterns + total (λ f. naming (fact_term f) patterns) met = counts met found names_term term_tells in
      let each = total_each (λ f. naming (fact_term f) patterns) (8 * r) (λ f. h.few (fact_term f)) met in
      let size = h.size in
      omega (arith, steps, each, size)
