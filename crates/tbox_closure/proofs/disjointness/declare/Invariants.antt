use Rattle.std.proofs.Common.{length, take}
use Rattle.tbox_closure.specs.Disjointness.{all_pairs, AreDeclared}
use Rattle.tbox_closure.specs.Marks.{AreWide}
use Rattle.tbox_closure.proofs.disjointness.declare.Given as goal

abbrev pub invariant-loop-it : goal.invariant-loop-it
invariant-loop-it l = record {
  wide : AreWide (length l.fn.rows) l.rows;
  declared : AreDeclared (all_pairs l.kind (take l.it-index l.axioms)) l.rows;
}
