use Rattle.std.proofs.Common.{List, length, ◌∙◌, ap, subst}
use Rattle.dl_base.specs.declared.statements.Fact.{Fact}
use Rattle.loading.proofs.JoiningLaws.{Joins, joins_none, joins_more, known_given, not_yet, all_came}
use Rattle.loading.proofs.opening.joined.Goals as goal

pub loop-fact-init : goal.loop-fact-init
loop-fact-init c = joins_none c.args.given.items

pub loop-fact-preserved : goal.loop-fact-preserved
loop-fact-preserved c =
    let given = c.args.given.items in
    let fact = c.in-Some.fact in
    let known = known_given c.in_ok-known.known.items _ _ given fact c.in_ok-known.ensures.same c.in_ok-copies_of.ensures c.as_slice.ensures.value in
    let begins = c.into_iter-fact-iterator.ensures.into_iter_gives.0 ∙ c.into_vec-fact-items.ensures in
    let new = not_yet c.args.found c.into_iter-fact-iterator.result c.loop-fact.yielded c.loop-fact.fact-iterator begins c.loop-fact.yielded_by fact c.next.new.self c.requires c.in-Some.ensures.steps.0 in
    joins_more given c.loop-fact.yielded c.loop-fact.given.items c.in_ok-known.known.items fact c.loop-fact.invariant known new c.push_unless.new.facts.items
    (rw c.as_slice-in-loop-fact.ensures.value at c.in_ok-push_unless.ensures)

pub returns : goal.returns
returns c =
    let begins = c.into_iter-fact-iterator.ensures.into_iter_gives.0 ∙ c.into_vec-fact-items.ensures in
    let counted = c.into_iter-fact-iterator.ensures.into_iter_gives.1 ∙ c.into_vec-fact-items.result.ok.0 ∙ ap length c.into_vec-fact-items.ensures in
    let came = all_came c.args.found c.into_iter-fact-iterator.result c.loop-fact.yielded c.loop-fact.fact-iterator begins c.loop-fact.yielded_by counted c.in-None.ensures.steps.0 in
    subst (λ (fs : List Fact). Joins c.args.given.items fs c.loop-fact.given.items) came c.loop-fact.invariant
