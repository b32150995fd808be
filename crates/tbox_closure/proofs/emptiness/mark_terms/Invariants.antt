use Rattle.tbox_closure.specs.Marks.{AreWide}
use Rattle.tbox_closure.specs.Tables.{Notes}
use Rattle.tbox_closure.proofs.EmptyLaws.{OfBelow}
use Rattle.tbox_closure.proofs.emptiness.mark_terms.Given as goal

abbrev pub invariant-loop-number : goal.invariant-loop-number
invariant-loop-number l = record {
  wide : AreWide 1 l.rows;
  noted : Notes (OfBelow l.tables.axioms l.number) l.fn.rows l.rows;
}
