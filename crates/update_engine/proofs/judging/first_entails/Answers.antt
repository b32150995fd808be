use Rattle.std.proofs.Common.{◌<◌, ◌≤◌, length, refl, arith}
use Rattle.update_engine.proofs.JudgeLaws.{names_entails, next_entails, no_entails}
use Rattle.update_engine.proofs.judging.first_entails.Goals as goal

pub returns-in-Some-clause-some : goal.returns-in-Some-clause-some
returns-in-Some-clause-some c =
    let within : c.loop-place.place < length c.args.inserts.now = omega arith in
    names_entails c.args.rules.now.axioms c.args.deletes.now c.args.inserts.now c.loop-place.place c.in-Some.deleted c.index-inserts-place.result within c.index-inserts-place.is c.requires c.loop-place.invariant c.in-Some.ensures.some

pub loop-place-preserved : goal.loop-place-preserved
loop-place-preserved c =
    let within : c.loop-place.place < length c.args.inserts.now = omega arith in
    next_entails c.args.rules.now.axioms c.args.deletes.now c.args.inserts.now c.loop-place.place c.index-inserts-place.result within c.index-inserts-place.is c.loop-place.invariant (c.in_default.ensures.none refl)

pub returns-clause-none : goal.returns-clause-none
returns-clause-none c e =
    let past : length c.args.inserts.now ≤ c.loop-place.place = omega arith in
    no_entails c.args.rules.now.axioms c.args.deletes.now c.args.inserts.now c.loop-place.place past c.loop-place.invariant
