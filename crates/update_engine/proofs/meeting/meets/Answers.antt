use Rattle.std.proofs.Common.{refl, sym, ◌∙◌, inl, inr, ⊎_elim}
use Rattle.std.proofs.lemmas.Bool.{false≢true}
use Rattle.update_engine.proofs.MeetLaws.{with_one, from_one}
use Rattle.update_engine.proofs.meeting.meets.Goals as goal

pub clashes_with-requires-clause-well : goal.clashes_with-requires-clause-well
clashes_with-requires-clause-well c h = c.requires.well (inl h)

pub returns-then-clashes_with : goal.returns-then-clashes_with
returns-then-clashes_with c = ((λ h. inl (from_one c.args.rules.now.axioms c.args.given.now c.args.inserts.now (c.clashes_with.ensures.0 c.if-clashes_with.true))), λ h. refl)

pub returns : goal.returns
returns c = (
  (λ h. inr (c.entails_one.ensures.0 h)),
  λ m. ⊎_elim
      (λ k. absurd (false≢true (sym c.if-clashes_with.false ∙ c.clashes_with.ensures.1 ((with_one c.args.rules.now.axioms c.args.given.now c.args.inserts.now (λ x. c.requires.well (inl x)) c.requires.alone).0 k))))
      (λ k. c.entails_one.ensures.1 k)
      m,
)
