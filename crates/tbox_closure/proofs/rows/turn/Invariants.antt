use Rattle.std.proofs.Common.{length}
use Rattle.tbox_closure.specs.Marks.{AreWide}
use Rattle.tbox_closure.proofs.TurnLaws.{Turned}
use Rattle.tbox_closure.proofs.rows.turn.Given as goal

abbrev pub invariant-loop-k : goal.invariant-loop-k
invariant-loop-k l = record {
  wide : AreWide (length l.fn.turned) l.turned;
  turned : Turned l.node l.marks l.k l.fn.turned l.turned;
}
