use Rattle.std.proofs.Common.{◌≡◌, ◌<◌, ℕ, length}
use Rattle.tbox_closure.specs.Marks.{row}
use Rattle.tbox_closure.specs.Graphs.{AreFirst}
use Rattle.tbox_closure.proofs.rows.first_rows.Given as goal

abbrev pub invariant-loop-node : goal.invariant-loop-node
invariant-loop-node l = record {
  count : length l.rows.items ≡ l.node;
  first : AreFirst l.rows.items;
  alike : (i : ℕ) → i < length l.rows.items → length (row l.rows.items i) ≡ l.width;
}
