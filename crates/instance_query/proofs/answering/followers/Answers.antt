use Rattle.std.proofs.Common.{◌<◌, length, arith, sym}
use Rattle.instance_query.proofs.AnswerLaws.{follows_none, follows_next, follows_end}
use Rattle.instance_query.proofs.answering.followers.Goals as goal

pub loop-fact-init : goal.loop-fact-init
loop-fact-init c = rw c.new-entailed.ensures.items (follows_none c.args.entailers.now.axioms)

pub follows-requires : goal.follows-requires
follows-requires c =
    let within : c.loop-fact.fact-index < length c.args.facts.now = omega arith in
    c.requires c.fact-item.result (c.loop-fact.fact-index, within, sym c.fact-item.is)

pub loop-fact-preserved : goal.loop-fact-preserved
loop-fact-preserved c =
    let within : c.loop-fact.fact-index < length c.args.facts.now = omega arith in
    rw c.in_ok-append.ensures.items
    (follows_next c.args.entailers.now.axioms c.args.facts.now c.loop-fact.fact-index c.fact-item.result c.loop-fact.entailed.items _ within c.fact-item.is c.in_ok-more.ensures.ok c.loop-fact.invariant)

pub returns : goal.returns
returns c = follows_end c.args.entailers.now.axioms c.args.facts.now c.loop-fact.fact-index c.loop-fact.entailed.items c.loop-fact-test.false c.loop-fact.invariant
