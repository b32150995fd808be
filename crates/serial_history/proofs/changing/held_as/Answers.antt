use Rattle.std.proofs.Common.{◌<◌, length, arith}
use Rattle.dl_base.proofs.PicksLaws.{picks_more, picks_less}
use Rattle.serial_history.specs.Changing.{IsHeldAs}
use Rattle.serial_history.proofs.HeldLaws.{as_said, not_as_said}
use Rattle.serial_history.proofs.changing.held_as.Goals as goal
use Rattle.serial_history.proofs.changing.held_as.Goals.{then-has-held+in_ok-copy+in_ok-push, else-has-held}

pub loop-fact-preserved : goal.loop-fact-preserved
loop-fact-preserved g c =
    let within : c.loop-fact.fact-index < length c.args.facts.now = omega arith in
    let version = g.V.FactSet.facts c.args.version.now in
    elim c.if-has-held.branch [
      | then-has-held+in_ok-copy+in_ok-push w ↦
          rw (w.picked-is, w.in_ok-push.ensures.items, w.in_ok-copy.ensures)
          (picks_more (IsHeldAs c.args.held version) c.args.facts.now c.loop-fact.picked.items c.loop-fact.fact-index c.fact-item.result within c.fact-item.is c.loop-fact.invariant (as_said version c.fact-item.result c.args.held c.has.result c.has.ensures.member w.if-has-held.true))
      | else-has-held w ↦
          rw w.picked-is
          (picks_less (IsHeldAs c.args.held version) c.args.facts.now c.loop-fact.picked.items c.loop-fact.fact-index c.fact-item.result within c.fact-item.is c.loop-fact.invariant (not_as_said version c.fact-item.result c.args.held c.has.result c.has.ensures.member w.if-has-held.false))
    ]
