use Rattle.std.proofs.Common.{◌<◌, ◌≤◌, length, sym, ◌∙◌, arith}
use Rattle.std.proofs.lemmas.Bool.{false≢true}
use Rattle.dl_base.specs.IllFormed.{ClashAt}
use Rattle.update_engine.proofs.JudgeLaws.{next_place, no_clash_at, pair_at, not_pair_at, no_partner}
use Rattle.update_engine.proofs.clashes.first_partner.Goals as goal

pub pair-requires-clause-first : goal.pair-requires-clause-first
pair-requires-clause-first c = no_clash_at c.args.rules.now.axioms c.args.facts.now c.args.place c.index-facts-place.result c.requires.within c.index-facts-place.is c.requires.alone

pub pair-requires-clause-second : goal.pair-requires-clause-second
pair-requires-clause-second c =
    let within : c.loop-other.other < length c.args.facts.now = omega arith in
    no_clash_at c.args.rules.now.axioms c.args.facts.now c.loop-other.other c.index-facts-other.result within c.index-facts-other.is c.requires.alone

pub returns-then-pair-clause-some : goal.returns-then-pair-clause-some
returns-then-pair-clause-some c =
    let within : c.loop-other.other < length c.args.facts.now = omega arith in
    let later : c.args.place < c.loop-other.other = omega arith in
    record {
      here = pair_at c.args.rules.now.axioms c.args.facts.now c.args.place c.loop-other.other c.index-facts-place.result c.index-facts-other.result later within c.index-facts-place.is c.index-facts-other.is (c.pair.ensures.0 c.if-pair.true);
      least = c.loop-other.invariant;
    }

pub loop-other-preserved : goal.loop-other-preserved
loop-other-preserved c =
    let within : c.loop-other.other < length c.args.facts.now = omega arith in
    let later : c.args.place < c.loop-other.other = omega arith in
    next_place (ClashAt c.args.rules.now.axioms c.args.facts.now c.args.place) c.loop-other.other c.loop-other.invariant
    (not_pair_at c.args.rules.now.axioms c.args.facts.now c.args.place c.loop-other.other c.index-facts-place.result c.index-facts-other.result later within c.index-facts-place.is c.index-facts-other.is (λ h. false≢true (sym c.if-pair.false ∙ c.pair.ensures.1 h)))

pub returns-clause-none : goal.returns-clause-none
returns-clause-none c e =
    let past : length c.args.facts.now ≤ c.loop-other.other = omega arith in
    no_partner c.args.rules.now.axioms c.args.facts.now c.args.place c.loop-other.other past c.loop-other.invariant
