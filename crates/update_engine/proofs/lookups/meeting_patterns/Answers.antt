use Rattle.std.proofs.Common.{length, inl, inr, ⊎_elim}
use Rattle.update_engine.proofs.LookupLaws.{asked_left, asked_right, asked_cases, few_both}
use Rattle.update_engine.proofs.MeetLaws.{with_one, from_one}
use Rattle.update_engine.proofs.lookups.meeting_patterns.Goals as goal

pub clashing_patterns-requires : goal.clashing_patterns-requires
clashing_patterns-requires c h = c.requires (inl h)

pub returns-clause-asks : goal.returns-clause-asks
returns-clause-asks c f s =
    let axioms = c.args.rules.now.axioms in
    let inserts = c.args.inserts.now in
    rw c.in_ok-append.ensures.items (
      (λ h. ⊎_elim
          (λ a. inl (from_one axioms f inserts ((c.in_ok-patterns.ensures.asks f s).0 a)))
          (λ a. inr ((c.in_ok-entailing_patterns.ensures.asks f s).0 a))
          (asked_cases c.in_ok-patterns.patterns.items _ f h)),
      λ h. ⊎_elim
          (λ k. asked_left _ _ f ((c.in_ok-patterns.ensures.asks f s).1 ((with_one axioms f inserts (λ i. c.requires (inl i)) s.1).0 k)))
          (λ k. asked_right _ _ f ((c.in_ok-entailing_patterns.ensures.asks f s).1 k))
          h,
    )

pub returns-clause-few : goal.returns-clause-few
returns-clause-few c = rw c.in_ok-append.ensures.items
    (few_both (length c.args.rules.now.terms) (length c.args.inserts.now) (length c.args.deletes.now) c.in_ok-patterns.patterns.items _ c.in_ok-patterns.ensures.few c.in_ok-entailing_patterns.ensures.few)
