use Rattle.fact_delta.proofs.ListLaws.{marked_sorted}
use Rattle.fact_delta.proofs.lists.marked.Goals as goal

pub returns-clause-marked : goal.returns-clause-marked
returns-clause-marked c = marked_sorted c.args.changed.now c.args.mark c.in_ok-facts.facts.items c.in_ok-facts-2.facts.items c.in_ok-facts-2.ensures.same c.in_ok-facts.ensures
