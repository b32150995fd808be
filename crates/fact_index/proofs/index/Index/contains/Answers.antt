use Rattle.std.proofs.lemmas.Bool.{false≢true}
use Rattle.fact_index.proofs.IndexLaws.{facts_sorted, held_at, not_held}
use Rattle.fact_index.proofs.index.Index.contains.Goals as goal

pub returns-in-Some-clause-member : goal.returns-in-Some-clause-member
returns-in-Some-clause-member c =
    let at = held_at c.self.inside.numbers c.self.inside.links c.self.invariant c.args.fact.now c.in-Some.link c.in-Some.ensures in
    rw (← c.self.view_is) ((λ e. at.0 (c.has.ensures.0 e)), λ m. c.has.ensures.1 (at.1 m))

pub returns-in-Some-clause-sorted : goal.returns-in-Some-clause-sorted
returns-in-Some-clause-sorted c = rw (← c.self.view_is) (facts_sorted c.self.inside.numbers c.self.inside.links)

pub returns-in-None-clause-member : goal.returns-in-None-clause-member
returns-in-None-clause-member c =
    let no = not_held c.self.inside.numbers c.self.inside.links c.self.invariant c.args.fact.now c.in-None.ensures in
    rw (← c.self.view_is) ((λ e. absurd (false≢true e)), λ m. absurd (no m))

pub returns-in-None-clause-sorted : goal.returns-in-None-clause-sorted
returns-in-None-clause-sorted c = rw (← c.self.view_is) (facts_sorted c.self.inside.numbers c.self.inside.links)
