use Rattle.std.proofs.Common.{ap, ◌∙◌}
use Rattle.std.proofs.lemmas.Result.{err_from_is_err_and}
use Rattle.fact_index.specs.Looking.{facts_of}
use Rattle.fact_index.proofs.IndexLaws.{facts_sorted, facts_kept, still_within, put_added, put_within, put_held}
use Rattle.fact_index.proofs.index.Index.take_in.Goals as goal

pub invariant_of-self : goal.invariant_of-self
invariant_of-self c = still_within c.self.inside.numbers c.link_in.new.self c.in_err-link.ensures.grown c.self.inside.links c.self.invariant

pub returns-in_err-link-clause-refused : goal.returns-in_err-link-clause-refused
returns-in_err-link-clause-refused c =
    let p = err_from_is_err_and c.from_residual.result c.from_residual.ensures.1 in
    rw p.1 (facts_kept c.self.inside.numbers c.link_in.new.self c.in_err-link.ensures.grown c.self.inside.links c.self.invariant ∙ c.self.view_is)

pub returns-in_err-link-clause-sorted : goal.returns-in_err-link-clause-sorted
returns-in_err-link-clause-sorted c = facts_sorted c.link_in.new.self c.self.inside.links

pub invariant_of-self-in_err-added : goal.invariant_of-self-in_err-added
invariant_of-self-in_err-added c =
    rw c.in_err-added.ensures.refused (still_within c.self.inside.numbers c.link_in.new.self c.in_ok-link.ensures.grown c.self.inside.links c.self.invariant)

pub returns-in_err-added-clause-refused : goal.returns-in_err-added-clause-refused
returns-in_err-added-clause-refused c =
    let p = err_from_is_err_and c.from_residual-in_err-added.result c.from_residual-in_err-added.ensures.1 in
    rw p.1
    (ap (facts_of c.link_in.new.self) c.in_err-added.ensures.refused ∙ facts_kept c.self.inside.numbers c.link_in.new.self c.in_ok-link.ensures.grown c.self.inside.links c.self.invariant ∙ c.self.view_is)

pub returns-in_err-added-clause-sorted : goal.returns-in_err-added-clause-sorted
returns-in_err-added-clause-sorted c = facts_sorted c.link_in.new.self c.insert.new.self

pub invariant_of-self-2 : goal.invariant_of-self-2
invariant_of-self-2 c =
    put_within c.self.inside.numbers c.link_in.new.self c.in_ok-link.ensures.grown c.self.inside.links c.self.invariant c.args.fact.now c.in_ok-link.link c.in_ok-link.ensures.linked c.insert.new.self c.in_ok-added.ensures.held

pub returns-clause-added : goal.returns-clause-added
returns-clause-added c =
    rw (← c.self.view_is)
    (put_added c.self.inside.numbers c.link_in.new.self c.in_ok-link.ensures.grown c.self.inside.links c.self.invariant c.args.fact.now c.in_ok-link.link c.in_ok-link.ensures.linked c.in_ok-added.added c.in_ok-added.ensures.added)

pub returns-clause-held : goal.returns-clause-held
returns-clause-held c =
    rw (← c.self.view_is)
    (put_held c.self.inside.numbers c.link_in.new.self c.in_ok-link.ensures.grown c.self.inside.links c.self.invariant c.args.fact.now c.in_ok-link.link c.in_ok-link.ensures.linked c.insert.new.self c.in_ok-added.ensures.held)

pub returns-clause-sorted : goal.returns-clause-sorted
returns-clause-sorted c = facts_sorted c.link_in.new.self c.insert.new.self
