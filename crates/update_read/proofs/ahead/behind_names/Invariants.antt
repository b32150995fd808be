use Rattle.std.proofs.Common.{◌≡◌, ◌++◌, ℕ, List, length, true}
use Rattle.std.specs.Prelude.{All}
use Rattle.update_read.specs.Ahead.{is_name_byte}
use Rattle.update_read.proofs.ahead.behind_names.Given as goal

abbrev pub invariant-loop-first : goal.invariant-loop-first
invariant-loop-first l = (front : List ℕ) × (l.bytes ≡ front ++ l.rest) × All (λ b. is_name_byte b ≡ true) front

abbrev pub decreases-loop-first : goal.decreases-loop-first
decreases-loop-first l = length l.rest
