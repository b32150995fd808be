use Rattle.std.proofs.Common.{◌≡◌, ◌<◌, ◌≤◌, ℕ, IsTrue, false, slice_index_or, bit_or}
use Rattle.tbox_closure.specs.Marks.{spare}
use Rattle.tbox_closure.proofs.marks.unite.Given as goal

abbrev pub invariant-loop-k : goal.invariant-loop-k
invariant-loop-k l = record {
  done : (w : ℕ) → w < l.k → slice_index_or l.into w 0 ≡ bit_or (slice_index_or l.fn.into w 0) (slice_index_or l.from w 0);
  rest : (w : ℕ) → l.k ≤ w → slice_index_or l.into w 0 ≡ slice_index_or l.fn.into w 0;
  same : l.changed ≡ false → l.into ≡ l.fn.into;
  fewer : IsTrue l.changed → spare l.into < spare l.fn.into;
  no_more : spare l.into ≤ spare l.fn.into;
}
