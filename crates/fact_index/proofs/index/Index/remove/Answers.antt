use Rattle.std.proofs.lemmas.Bool.{false≢true}
use Rattle.std.proofs.Common.{subst}
use Rattle.std.specs.Prelude.{Contains}
use Rattle.fact_index.specs.Looking.{facts_of}
use Rattle.fact_index.proofs.IndexLaws.{facts_sorted, held_at, not_held, taken_within, taken_held}
use Rattle.fact_index.proofs.index.Index.remove.Goals as goal

pub invariant_of-self : goal.invariant_of-self
invariant_of-self c = taken_within c.self.inside.numbers c.self.inside.links c.self.invariant c.args.fact.now c.in-Some.link c.in-Some.ensures c.remove.new.self c.remove.ensures.held

pub returns-in-Some-clause-removed : goal.returns-in-Some-clause-removed
returns-in-Some-clause-removed c =
    let at = held_at c.self.inside.numbers c.self.inside.links c.self.invariant c.args.fact.now c.in-Some.link c.in-Some.ensures in
    rw (← c.self.view_is) ((λ e. at.0 (c.remove.ensures.removed.0 e)), λ m. c.remove.ensures.removed.1 (at.1 m))

pub returns-in-Some-clause-held : goal.returns-in-Some-clause-held
returns-in-Some-clause-held c =
    rw (← c.self.view_is)
    (taken_held c.self.inside.numbers c.self.inside.links c.self.invariant c.args.fact.now c.in-Some.link c.in-Some.ensures c.remove.new.self c.remove.ensures.held)

pub returns-in-Some-clause-sorted : goal.returns-in-Some-clause-sorted
returns-in-Some-clause-sorted c = facts_sorted c.self.inside.numbers c.remove.new.self

pub returns-in-None-clause-removed : goal.returns-in-None-clause-removed
returns-in-None-clause-removed c =
    let no = not_held c.self.inside.numbers c.self.inside.links c.self.invariant c.args.fact.now c.in-None.ensures in
    rw (← c.self.view_is) ((λ e. absurd (false≢true e)), λ m. absurd (no m))

pub returns-in-None-clause-held : goal.returns-in-None-clause-held
returns-in-None-clause-held c =
    let no = not_held c.self.inside.numbers c.self.inside.links c.self.invariant c.args.fact.now c.in-None.ensures in
    rw (← c.self.view_is) (λ f. ((λ m. (m, λ e. no (subst (Contains (facts_of c.self.inside.numbers c.self.inside.links)) e m))), λ h. h.0))

pub returns-in-None-clause-sorted : goal.returns-in-None-clause-sorted
returns-in-None-clause-sorted c = rw (← c.self.view_is) (facts_sorted c.self.inside.numbers c.self.inside.links)
