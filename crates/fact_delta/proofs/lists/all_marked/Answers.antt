use Rattle.std.proofs.Common.{◌≡◌, ◌<◌, length, arith}
use Rattle.fact_delta.proofs.ListLaws.{same_mark, other_mark, marked_more, marked_less, all_marked}
use Rattle.fact_delta.proofs.lists.all_marked.Goals as goal
use Rattle.fact_delta.proofs.lists.all_marked.Goals.{then-change-mark+in_ok-copy+in_ok-push, else-change-mark}

pub loop-change-preserved : goal.loop-change-preserved
loop-change-preserved c =
    let within : c.loop-change.change-index < length c.args.changed.now = omega (arith, c.loop-change-test.true) in
    elim c.if-change-mark.branch [
      | then-change-mark+in_ok-copy+in_ok-push w ↦
          rw (w.facts-is, w.in_ok-push.ensures.items, w.in_ok-copy.ensures)
          (marked_more c.args.changed.now c.args.mark c.loop-change.facts.items c.loop-change.change-index c.change-item.result within c.change-item.is c.loop-change.invariant (same_mark c.change-item.result.added c.args.mark w.if-change-mark.true))
      | else-change-mark w ↦
          rw w.facts-is
          (marked_less c.args.changed.now c.args.mark c.loop-change.facts.items c.loop-change.change-index c.change-item.result within c.change-item.is c.loop-change.invariant (other_mark c.change-item.result.added c.args.mark w.if-change-mark.false))
    ]

pub returns : goal.returns
returns c = let all : c.loop-change.change-index ≡ length c.args.changed.now = omega (arith, c.loop-change-test.false, c.loop-change.auto.change-index-end) in all_marked c.args.changed.now c.args.mark c.loop-change.facts.items c.loop-change.change-index all c.loop-change.invariant
