use Rattle.fact_index.proofs.shared.Shared.of.Goals as goal

pub returns-clause-same : goal.returns-clause-same
returns-clause-same c = λ f. rw c.in_ok-new.ensures.ok (c.in_ok-index.ensures.same f)
