use Rattle.std.proofs.Common.{◌<◌, ◌≤◌, length, sym, ◌∙◌, arith}
use Rattle.std.proofs.lemmas.Bool.{false≢true}
use Rattle.update_engine.proofs.JudgeLaws.{next_place, not_entailed, none_entailed, EntailedAt}
use Rattle.update_engine.proofs.judging.first_entailed.Goals as goal

pub loop-place-preserved : goal.loop-place-preserved
loop-place-preserved c =
    let within : c.loop-place.place < length c.args.deletes.now = omega arith in
    next_place (EntailedAt c.args.rules.now.axioms c.args.deletes.now c.args.given.now) c.loop-place.place c.loop-place.invariant
    (not_entailed c.args.rules.now.axioms c.args.deletes.now c.args.given.now c.index-deletes-place.result c.loop-place.place within c.index-deletes-place.is (λ h. false≢true (sym c.if-entails.false ∙ c.entails.ensures.1 h)))

pub returns-clause-none : goal.returns-clause-none
returns-clause-none c e =
    let past : length c.args.deletes.now ≤ c.loop-place.place = omega arith in
    none_entailed c.args.rules.now.axioms c.args.deletes.now c.args.given.now c.loop-place.place past c.loop-place.invariant
