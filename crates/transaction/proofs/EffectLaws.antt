-- From a step to what it makes of a transaction.
use Rattle.std.proofs.Common.{◌≡◌, ◌++◌, List, sym, subst, inl, inr, ⊎_elim}
use Rattle.std.specs.Prelude.{◌↔◌, Contains}
use Rattle.std.proofs.lemmas.List.Elements.{Contains-append_left, Contains-append_right, Contains-append_cases}
use Rattle.dl_base.specs.declared.axioms.Axiom.{Axiom}
use Rattle.dl_base.specs.declared.statements.Fact.{Fact}
use Rattle.dl_base.specs.FactOrder.{AreSorted}
use Rattle.dl_base.specs.Picks.{Picks}
use Rattle.dl_base.specs.Updates.{Lists, IsStored, IsLost, IsPut, Meets}
use Rattle.dl_base.proofs.ClosureLaws.{member_in_closure}
use Rattle.dl_base.proofs.MeetingLaws.{inserted_stays}
use Rattle.dl_base.proofs.PicksLaws.{from_picks, into_picks}
use Rattle.dl_base.proofs.SameFacts.{fact_in_or_not}
use Rattle.fact_delta.specs.Deltas.{Over, Fits, IsApplied, standing, moved_over}
use Rattle.fact_delta.proofs.ListLaws.{Missing}
use Rattle.fact_delta.proofs.StandingLaws.{standing_sorted}
use Rattle.transaction.specs.Effects.{IsEffect, IsMade, IsReplaced}
use Rattle.transaction.specs.declared.effects.Effect.{Effect}
use Rattle.update_engine.specs.declared.answers.Step.{Step}
use Rattle.update_engine.specs.Stepping.{IsStep}

pub lists_as : (P Q : Fact → Type 0) (facts : List Fact) → ((f : Fact) → P f ↔ Q f) → Lists P facts → Lists Q facts
lists_as P Q facts same h = record { sorted = h.sorted; each = λ f. ((λ m. (same f).0 ((h.each f).0 m)), λ q. (h.each f).1 ((same f).1 q)) }

pub replaced_as : (held kept : List Fact) (G H C D : Fact → Type 0) → ((f : Fact) → Contains held f ↔ Contains kept f) → ((f : Fact) → G f ↔ H f) → ((f : Fact) → C f ↔ D f)
    → (f : Fact) → IsReplaced held G C f ↔ IsReplaced kept H D f
replaced_as held kept G H C D same gone come f = (
  (λ h. ⊎_elim (λ k. inl ((same f).0 k.0, λ n. k.1 ((gone f).1 n))) (λ k. inr ((come f).0 k)) h),
  λ h. ⊎_elim (λ k. inl ((same f).1 k.0, λ n. k.1 ((gone f).0 n))) (λ k. inr ((come f).1 k)) h,
)

-- what is left and what comes, in order
pub replaced_is : (held go come kept more all facts : List Fact) → Picks (Missing go) held kept → more ≡ come → all ≡ kept ++ more → ((f : Fact) → Contains facts f ↔ Contains all f) → AreSorted facts
    → Lists (IsReplaced held (Contains go) (Contains come)) facts
replaced_is held go come kept more all facts picks e joined same sorted = record {
  sorted = sorted;
  each = λ f. (
    (λ m. ⊎_elim (λ k. inl (from_picks (Missing go) held kept f picks k)) (λ k. inr (subst (λ (fs : List Fact). Contains fs f) e k))
        (Contains-append_cases kept more f (subst (λ (fs : List Fact). Contains fs f) joined ((same f).0 m)))),
    λ h. (same f).1 (subst (λ (fs : List Fact). Contains fs f) (sym joined)
        (⊎_elim (λ k. Contains-append_left kept more f (into_picks (Missing go) held kept f picks k.0 k.1)) (λ k. Contains-append_right kept more f (subst (λ (fs : List Fact). Contains fs f) (sym e) k)) h)),
  );
}

module _ (axioms : List Axiom) (old inserts deletes : List Fact) (step : Step) (is_step : IsStep axioms old inserts deletes step) where
  abbrev Stored : Fact → Type 0
  Stored f = IsStored axioms old inserts deletes f

  -- what a step removes was held, and what it adds wasn't
  pub fits : Fits old step.removed.items step.added.items
  fits = record { go = λ f m. ((is_step.removed.each f).0 m).0; come = λ f m. ((is_step.added.each f).0 m).1 }

  put_stays : (f : Fact) → IsPut axioms old inserts deletes f → ¬ Meets axioms inserts deletes f
  put_stays f (inl m) h = inserted_stays axioms inserts deletes is_step.well_formed f (member_in_closure axioms inserts f m) h
  put_stays f (inr s) h = s.1 h

  gone_goes : (f : Fact) → Contains step.removed.items f → ¬ Stored f
  gone_goes f m s = let meets = ((is_step.removed.each f).0 m).1 in ⊎_elim (λ k. k.1 meets) (λ p. put_stays f p meets) s

  -- the facts after the step are what is stored
  pub applied_is : (new : List Fact) → IsApplied old step.removed.items step.added.items new → (f : Fact) → Contains new f ↔ Stored f
  applied_is new h f = (
    (λ m. ⊎_elim (λ k. inl (k.0, λ t. k.1 ((is_step.removed.each f).1 (k.0, t)))) (λ k. ((is_step.added.each f).0 k).0) ((h f).0 m)),
    λ s. (h f).1 (⊎_elim (λ m. inl (m, λ k. gone_goes f k s)) (λ n. inr ((is_step.added.each f).1 (s, n))) (fact_in_or_not old f)),
  )

module _ (axioms : List Axiom) (stood : Over) (put taken inserts deletes : List Fact) (step : Step) (effect : Effect)
    (is_step : IsStep axioms (standing stood) inserts deletes step) (made : IsMade stood put taken step effect) where
  abbrev next : List Fact
  next = standing (moved_over stood effect.moved)

  stored_is : (f : Fact) → Contains next f ↔ IsStored axioms (standing stood) inserts deletes f
  stored_is = applied_is axioms (standing stood) inserts deletes step is_step next made.applied

  pub effect_is : IsEffect axioms stood put taken inserts deletes effect
  effect_is = record {
    well = is_step.well_formed;
    over = made.over;
    stored = record { sorted = standing_sorted (moved_over stood effect.moved) made.over; each = stored_is };
    lost = subst (Lists (λ f. IsLost axioms (standing stood) next f)) (sym made.lost) (is_step.lost next stored_is);
    put_now = lists_as _ _ effect.put.items (replaced_as put put _ _ _ _ (λ f. ((λ m. m), λ m. m)) is_step.removed.each is_step.put.each) made.put_now;
    taken_now = lists_as _ _ effect.taken.items (replaced_as taken taken _ _ _ _ (λ f. ((λ m. m), λ m. m)) is_step.put.each is_step.removed.each) made.taken_now;
    consistent = is_step.consistent next stored_is;
  }
