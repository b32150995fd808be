-- What is stored after a step.
use Rattle.std.proofs.Common.{List, inl, inr, ⊎_elim}
use Rattle.std.specs.Prelude.{◌↔◌, Contains}
use Rattle.dl_base.specs.declared.axioms.Axiom.{Axiom}
use Rattle.dl_base.specs.declared.statements.Fact.{Fact}
use Rattle.dl_base.specs.Picks.{Picks}
use Rattle.dl_base.specs.Updates.{IsStored, IsPut, Meets}
use Rattle.dl_base.proofs.ClosureLaws.{member_in_closure}
use Rattle.dl_base.proofs.MeetingLaws.{inserted_stays}
use Rattle.dl_base.proofs.PicksLaws.{from_picks, into_picks}
use Rattle.dl_base.proofs.SameFacts.{fact_in_or_not}
use Rattle.update_engine.specs.declared.answers.Step.{Step}
use Rattle.update_engine.specs.Stepping.{IsStep}
use Rattle.update_engine.proofs.StepLaws.{Joins}

module _ (axioms : List Axiom) (old inserts deletes : List Fact) (step : Step) (is_step : IsStep axioms old inserts deletes step) where
  -- what is put doesn't meet the request
  put_stays : (f : Fact) → IsPut axioms old inserts deletes f → ¬ Meets axioms inserts deletes f
  put_stays f (inl m) h = inserted_stays axioms inserts deletes is_step.well_formed f (member_in_closure axioms inserts f m) h
  put_stays f (inr s) h = s.1 h

  abbrev Remains : Fact → Type 0
  Remains f = ¬ Contains step.removed.items f

  pub stored_is : (kept all : List Fact) → Picks Remains old kept → Joins kept step.added.items all → (f : Fact) → Contains all f ↔ IsStored axioms old inserts deletes f
  stored_is kept all picked joins f = (
    (λ m. ⊎_elim
        (λ k. let r = from_picks Remains old kept f picked k in inl (r.0, λ h. r.1 ((is_step.removed.each f).1 (r.0, h))))
        (λ k. ((is_step.added.each f).0 k).0)
        ((joins f).0 m)),
    λ h.
        let held : Contains old f → ¬ Meets axioms inserts deletes f → Contains all f = λ m n. (joins f).1 (inl (into_picks Remains old kept f picked m (λ r. n ((is_step.removed.each f).0 r).1))) in
        ⊎_elim
        (λ k. held k.0 k.1)
        (λ p. ⊎_elim (λ m. held m (put_stays f p)) (λ n. (joins f).1 (inr ((is_step.added.each f).1 (inr p, n)))) (fact_in_or_not old f))
        h,
  )
