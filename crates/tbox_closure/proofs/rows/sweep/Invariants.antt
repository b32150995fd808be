use Rattle.std.proofs.Common.{◌≡◌, ◌<◌, ◌≤◌, IsTrue, false, take}
use Rattle.tbox_closure.specs.Marks.{all_spare}
use Rattle.tbox_closure.specs.Graphs.{Grows, AreClosed}
use Rattle.tbox_closure.proofs.rows.sweep.Given as goal

abbrev pub invariant-loop-edge : goal.invariant-loop-edge
invariant-loop-edge l = record {
  grows : Grows l.edges l.fn.rows l.rows;
  closed : l.changed ≡ false → AreClosed (take l.edge-index l.edges) l.rows;
  fewer : IsTrue l.changed → all_spare l.rows < all_spare l.fn.rows;
  no_more : all_spare l.rows ≤ all_spare l.fn.rows;
}
