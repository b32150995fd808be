use Rattle.std.proofs.Common.{arith}
use Rattle.owl_syntax.proofs.QuoteLaws.{measured_none, measured_more, bad_escape, too_long, long_enough, escape_shorter}
use Rattle.owl_syntax.proofs.texts.text_fault.Goals as goal

pub loop-front-init : goal.loop-front-init
loop-front-init c = measured_none c.args.inner.now

pub returns-in_default-behind_escape : goal.returns-in_default-behind_escape
returns-in_default-behind_escape c =
    bad_escape c.args.inner.now c.loop-front.rest.now c.in-Some.front.now c.in-Some.after.now c.loop-front.length c.loop-front.invariant c.in-Some.ensures.0 c.in-Some.ensures.1 c.in_default-behind_escape.ensures

pub loop-front-preserved : goal.loop-front-preserved
loop-front-preserved c =
    measured_more c.args.inner.now c.loop-front.rest.now c.in-Some.front.now c.in-Some.after.now c.in-Some-behind_escape.behind.now c.loop-front.length c.in-Some-behind_escape.ensures.0 c.loop-front.invariant
    c.in-Some.ensures.0 c.in-Some.ensures.1 c.in-Some-behind_escape.ensures.1 (escape_shorter c.in-Some.after.now _ c.in-Some-behind_escape.behind.now c.in-Some-behind_escape.ensures.1)

pub returns-then-length-rest-gt-LONGEST_TEXT : goal.returns-then-length-rest-gt-LONGEST_TEXT
returns-then-length-rest-gt-LONGEST_TEXT c = too_long c.args.inner.now c.loop-front.rest.now c.loop-front.length c.loop-front.invariant c.in_default.ensures (omega arith)

pub returns : goal.returns
returns c = long_enough c.args.inner.now c.loop-front.rest.now c.loop-front.length c.loop-front.invariant c.in_default.ensures (omega arith)
