use Rattle.std.proofs.Common.{length}
use Rattle.tbox_closure.specs.Marks.{AreWide}
use Rattle.tbox_closure.proofs.TurnLaws.{TurnedBelow}
use Rattle.tbox_closure.proofs.rows.turn_all.Given as goal

abbrev pub invariant-loop-node : goal.invariant-loop-node
invariant-loop-node l = record {
  wide : AreWide (length l.rows) l.turned;
  turned : TurnedBelow l.rows l.node l.turned;
}
