use Rattle.std.proofs.Common.{◌≡◌, ◌+◌, length}
use Rattle.lock_turns.proofs.workers.Worker.take_turns.Given as goal

-- so many turns were taken
abbrev pub invariant-loop : goal.invariant-loop
invariant-loop g l = length l.self.seat.looks ≡ length l.fn.self.seat.looks + l.counter
