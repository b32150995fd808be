use Rattle.std.proofs.Common.{ℕ, ◌<◌}
use Rattle.read_patterns.specs.Meeting.{MeetsAt}
use Rattle.read_patterns.proofs.recorded.Recorded.meets.Given as goal

abbrev pub invariant-loop-place : goal.invariant-loop-place
invariant-loop-place l = (k : ℕ) → k < l.place → ¬ MeetsAt l.conflicts.axioms l.self l.fact k
