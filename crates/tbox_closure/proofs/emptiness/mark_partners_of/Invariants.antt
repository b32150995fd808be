use Rattle.std.proofs.Common.{take}
use Rattle.tbox_closure.specs.Marks.{AreWide}
use Rattle.tbox_closure.specs.Tables.{HasPartnerNode, Notes}
use Rattle.tbox_closure.proofs.emptiness.mark_partners_of.Given as goal

abbrev pub invariant-loop-it : goal.invariant-loop-it
invariant-loop-it l = record {
  wide : AreWide 1 l.rows;
  noted : Notes (HasPartnerNode l.tables.axioms (take l.it-index l.axioms)) l.fn.rows l.rows;
}
