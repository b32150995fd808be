use Rattle.std.proofs.Common.{arith, length, drop, ◌≤◌, ◌-◌, length-drop}
use Rattle.std.proofs.lemmas.List.{take_all}
use Rattle.dl_io.proofs.Appending.{appends_more}
use Rattle.dl_io.proofs.sinks.write_all.Goals as goal

pub overflow_add-at : goal.overflow_add-at
overflow_add-at g c = omega (arith, c.in-Took.ensures.writes.0, length-drop c.loop-at.at c.args.bytes.now)

pub loop-at-preserved : goal.loop-at-preserved
loop-at-preserved g c =
    let w = c.in-Took.ensures.writes in
    let rest = drop c.loop-at.at c.args.bytes.now in
    let whole : length rest ≤ length c.args.bytes.now - c.loop-at.at = omega (arith, length-drop c.loop-at.at c.args.bytes.now) in
    let front = rw (take_all (length c.args.bytes.now - c.loop-at.at) rest whole) at w.2 in
    record {
      within = omega (arith, w.0, length-drop c.loop-at.at c.args.bytes.now);
      written = appends_more _ _ _ c.args.bytes.now c.loop-at.at c.in-Took.count c.loop-at.invariant.written front;
      later = omega (arith, c.loop-at.invariant.later, c.in-Took.ensures.later);
    }
