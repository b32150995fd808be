use Rattle.std.proofs.Common.{◌≡◌, ◌<◌, length, arith}
use Rattle.update_engine.proofs.StepLaws.{join_step, join_end}
use Rattle.update_engine.proofs.picking.with_copies.Goals as goal

pub loop-fact-preserved : goal.loop-fact-preserved
loop-fact-preserved c =
    let within : c.loop-fact.fact-index < length c.args.others.now = omega arith in
    rw (c.in_ok-push.ensures.items, c.in_ok-copy.ensures)
    (join_step c.args.facts.items c.args.others.now c.loop-fact.facts.items c.loop-fact.fact-index c.fact-item.result within c.fact-item.is c.loop-fact.invariant)

pub returns : goal.returns
returns c =
    let all : c.loop-fact.fact-index ≡ length c.args.others.now = omega arith in
    join_end c.args.facts.items c.args.others.now c.loop-fact.facts.items c.loop-fact.fact-index all c.loop-fact.invariant
