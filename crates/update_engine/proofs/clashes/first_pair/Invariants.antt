use Rattle.std.proofs.Common.{ℕ, ◌<◌}
use Rattle.dl_base.specs.IllFormed.{ClashAt}
use Rattle.update_engine.proofs.clashes.first_pair.Given as goal

abbrev pub invariant-loop-place : goal.invariant-loop-place
invariant-loop-place l = (k : ℕ) → k < l.place → (m : ℕ) → ¬ ClashAt l.rules.axioms l.facts k m
