use Rattle.dl_runs.proofs.StretchLaws.{plain_more}
use Rattle.dl_runs.proofs.runs.behind_plain.Goals as goal

pub loop-first-preserved : goal.loop-first-preserved
loop-first-preserved c =
    plain_more c.args.class c.args.bytes.now c.loop-first.rest.now c.in-Some.behind.now c.in-Some.first.now c.loop-first.invariant c.in-Some.ensures.cases.0 (c.is_plain.ensures c.if-not-is_plain.false)
