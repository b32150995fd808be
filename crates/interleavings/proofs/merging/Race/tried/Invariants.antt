use Rattle.std.proofs.Common.{◌≤◌}
use Rattle.interleavings.proofs.merging.Race.tried.Given as goal

abbrev pub invariant-loop-mask : goal.invariant-loop-mask
invariant-loop-mask l = (l.merges ≤ l.mask) × (l.differ ≤ l.mask)
