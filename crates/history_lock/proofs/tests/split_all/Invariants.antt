use Rattle.std.proofs.Common.{◌≡◌, false}
use Rattle.history_lock.proofs.tests.split_all.Given as goal

-- so many passes were made by the first seat, which is out
abbrev pub invariant-loop-made : goal.invariant-loop-made
invariant-loop-made l = (l.first.lock ≡ l.lock) × (l.first.turning ≡ false) × (l.first.editor ≡ 0) × (l.first.noted ≡ l.made)
