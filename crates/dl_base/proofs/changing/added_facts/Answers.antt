use Rattle.std.proofs.Common.{◌≡◌, ◌<◌, length, arith}
use Rattle.dl_base.proofs.ChangingLaws.{brings_more, brings_less, all_brought}
use Rattle.dl_base.proofs.changing.added_facts.Goals as goal
use Rattle.dl_base.proofs.changing.added_facts.Goals.{then-change+in_ok-copy+in_ok-push, else-change}

pub loop-change-preserved : goal.loop-change-preserved
loop-change-preserved c =
    let within : c.loop-change.change-index < length c.args.changed.now = omega (arith, c.loop-change-test.true) in
    elim c.if-change.branch [
      | then-change+in_ok-copy+in_ok-push w ↦
          rw (w.facts-is, w.in_ok-push.ensures.items, w.in_ok-copy.ensures)
          (brings_more c.args.changed.now c.loop-change.facts.items c.loop-change.change-index c.change-item.result within c.change-item.is c.loop-change.invariant w.if-change.true)
      | else-change w ↦
          rw w.facts-is
          (brings_less c.args.changed.now c.loop-change.facts.items c.loop-change.change-index c.change-item.result within c.change-item.is c.loop-change.invariant w.if-change.false)
    ]

pub returns : goal.returns
returns c = let all : c.loop-change.change-index ≡ length c.args.changed.now = omega (arith, c.loop-change-test.false, c.loop-change.auto.change-index-end) in all_brought c.args.changed.now c.loop-change.facts.items c.loop-change.change-index all c.loop-change.invariant
