use Rattle.dl_base.proofs.plain.PlainSet.of.Goals as goal

pub returns-clause-same : goal.returns-clause-same
returns-clause-same c = λ f. rw c.in_ok-new.ensures.ok (c.in_ok-facts.ensures.same f)
