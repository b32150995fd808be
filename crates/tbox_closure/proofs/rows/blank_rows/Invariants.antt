use Rattle.std.proofs.Common.{◌≡◌, ◌<◌, ℕ, length}
use Rattle.tbox_closure.specs.Marks.{IsMarked, row}
use Rattle.tbox_closure.proofs.rows.blank_rows.Given as goal

abbrev pub invariant-loop-node : goal.invariant-loop-node
invariant-loop-node l = record {
  count : length l.rows.items ≡ l._node;
  wide : (i : ℕ) → i < length l.rows.items → length (row l.rows.items i) ≡ l.width;
  unmarked : (i k : ℕ) → i < length l.rows.items → ¬ IsMarked (row l.rows.items i) k;
}
