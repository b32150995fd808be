use Rattle.std.proofs.Common.{◌≤◌, length, refl, arith}
use Rattle.update_engine.proofs.JudgeLaws.{names_pair, next_pair, no_pair}
use Rattle.update_engine.proofs.clashes.first_pair.Goals as goal

pub returns-in-Some-clause-some : goal.returns-in-Some-clause-some
returns-in-Some-clause-some c = names_pair c.args.rules.now.axioms c.args.facts.now c.loop-place.place c.in-Some.other c.requires c.loop-place.invariant c.in-Some.ensures.some

pub loop-place-preserved : goal.loop-place-preserved
loop-place-preserved c = next_pair c.args.rules.now.axioms c.args.facts.now c.loop-place.place c.loop-place.invariant (c.in_default.ensures.none refl)

pub returns-clause-none : goal.returns-clause-none
returns-clause-none c e =
    let past : length c.args.facts.now ≤ c.loop-place.place = omega arith in
    no_pair c.args.rules.now.axioms c.args.facts.now c.loop-place.place past c.loop-place.invariant
