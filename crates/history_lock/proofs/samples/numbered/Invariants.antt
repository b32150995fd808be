use Rattle.std.proofs.Common.{◌≤◌}
use Rattle.history_lock.proofs.samples.numbered.Given as goal

abbrev pub invariant-loop-entry : goal.invariant-loop-entry
invariant-loop-entry l = l.count ≤ l.entry-index
