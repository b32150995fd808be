use Rattle.std.proofs.Common.{ℕ, ◌<◌}
use Rattle.dl_base.specs.IllFormed.{ClashesAt}
use Rattle.update_engine.proofs.clashes.first_alone.Given as goal

abbrev pub invariant-loop-place : goal.invariant-loop-place
invariant-loop-place l = (k : ℕ) → k < l.place → ¬ ClashesAt l.rules.axioms l.facts k
