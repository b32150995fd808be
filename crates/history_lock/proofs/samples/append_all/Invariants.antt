use Rattle.std.proofs.Common.{◌≡◌, false, length}
use Rattle.dl_base.specs.Histories.{own}
use Rattle.history_lock.proofs.samples.append_all.Given as goal

-- the seat is out, and its editor has as many entries as were appended
abbrev pub invariant-loop-number : goal.invariant-loop-number
invariant-loop-number g l = (l.seat.lock ≡ l.lock) × (l.seat.turning ≡ false) × (length (own l.seat.editor l.seat.seen) ≡ l.number)
