use Rattle.std.proofs.Common.{◌<◌, ◌≤◌, ◌/◌, ℕ}
use Rattle.tbox_closure.specs.Marks.{IsMarked}
use Rattle.tbox_closure.proofs.marks.Marks.next_word.Given as goal

abbrev pub invariant-loop-place : goal.invariant-loop-place
invariant-loop-place l = (k : ℕ) → l.from ≤ k / 64 → k / 64 < l.place → ¬ IsMarked l.self k
