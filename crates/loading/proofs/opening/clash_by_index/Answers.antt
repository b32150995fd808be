use Rattle.loading.proofs.opening.clash_by_index.Goals as goal

pub first_clash_in-requires-clause-same : goal.first_clash_in-requires-clause-same
first_clash_in-requires-clause-same g c = c.in_ok-index.ensures.same
