use Rattle.std.proofs.Common.{◌<◌, ◌≤◌, length, sym, ◌∙◌, arith}
use Rattle.std.proofs.lemmas.Bool.{false≢true}
use Rattle.dl_base.specs.IllFormed.{ClashesAt}
use Rattle.update_engine.proofs.JudgeLaws.{next_place, clashes_at, not_at, none_at_all}
use Rattle.update_engine.proofs.clashes.first_alone.Goals as goal

pub returns-then-alone-clause-some : goal.returns-then-alone-clause-some
returns-then-alone-clause-some c =
    let within : c.loop-place.place < length c.args.facts.now = omega arith in
    record {
      here = clashes_at c.args.rules.now.axioms c.args.facts.now c.loop-place.place c.index-facts-place.result within c.index-facts-place.is (c.alone.ensures.0 c.if-alone.true);
      least = c.loop-place.invariant;
    }

pub loop-place-preserved : goal.loop-place-preserved
loop-place-preserved c =
    let within : c.loop-place.place < length c.args.facts.now = omega arith in
    next_place (ClashesAt c.args.rules.now.axioms c.args.facts.now) c.loop-place.place c.loop-place.invariant
    (not_at c.args.rules.now.axioms c.args.facts.now c.loop-place.place c.index-facts-place.result within c.index-facts-place.is (λ h. false≢true (sym c.if-alone.false ∙ c.alone.ensures.1 h)))

pub returns-clause-none : goal.returns-clause-none
returns-clause-none c e =
    let past : length c.args.facts.now ≤ c.loop-place.place = omega arith in
    none_at_all c.args.rules.now.axioms c.args.facts.now c.loop-place.place past c.loop-place.invariant
