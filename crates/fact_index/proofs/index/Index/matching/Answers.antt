use Rattle.fact_index.proofs.IndexLaws.{facts_sorted}
use Rattle.fact_index.proofs.FoundLaws.{looked_up, nothing_found}
use Rattle.fact_index.proofs.index.Index.matching.Goals as goal

pub returns-in_default-clause-found : goal.returns-in_default-clause-found
returns-in_default-clause-found c =
    rw (← c.self.view_is) (nothing_found c.self.inside.numbers c.args.pattern.now c.self.inside.links c.self.invariant c.new.result.items c.new.ensures.items c.in_default.ensures)

pub returns-in_default-clause-sorted : goal.returns-in_default-clause-sorted
returns-in_default-clause-sorted c = rw (← c.self.view_is) (facts_sorted c.self.inside.numbers c.self.inside.links)

pub returns-in_err-links-clause-sorted : goal.returns-in_err-links-clause-sorted
returns-in_err-links-clause-sorted c = rw (← c.self.view_is) (facts_sorted c.self.inside.numbers c.self.inside.links)

pub returns-in_err-found-clause-sorted : goal.returns-in_err-found-clause-sorted
returns-in_err-found-clause-sorted c = rw (← c.self.view_is) (facts_sorted c.self.inside.numbers c.self.inside.links)

pub returns-in_err-ordered-clause-sorted : goal.returns-in_err-ordered-clause-sorted
returns-in_err-ordered-clause-sorted c = rw (← c.self.view_is) (facts_sorted c.self.inside.numbers c.self.inside.links)

pub returns-clause-found : goal.returns-clause-found
returns-clause-found c =
    rw (← c.self.view_is)
    (looked_up c.self.inside.numbers c.args.pattern.now c.self.inside.links c.self.invariant c.in-Some.place c.in_ok-links.links.items c.in_ok-found.found.items c.in_ok-ordered.ordered.items c.in-Some.ensures c.in_ok-links.ensures
    (rw c.as_slice.ensures.value at c.in_ok-found.ensures) c.in_ok-ordered.ensures.sorted c.in_ok-ordered.ensures.same)

pub returns-clause-sorted : goal.returns-clause-sorted
returns-clause-sorted c = rw (← c.self.view_is) (facts_sorted c.self.inside.numbers c.self.inside.links)
