use Rattle.std.proofs.Common.{◌≡◌, [], false, length}
use Rattle.lock_turns.proofs.seated.Given as goal

-- the first seat is out and has seen no entry, and so many workers were made
abbrev pub invariant-loop : goal.invariant-loop
invariant-loop l = (l.first.lock ≡ l.lock) × (l.first.turning ≡ false) × (l.first.editor ≡ 0) × (l.first.seen ≡ []) × (length l.all.items ≡ l.counter)
