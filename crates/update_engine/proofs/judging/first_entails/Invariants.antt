use Rattle.std.proofs.Common.{ℕ, ◌<◌}
use Rattle.dl_base.specs.IllFormed.{EntailsAt}
use Rattle.update_engine.proofs.judging.first_entails.Given as goal

abbrev pub invariant-loop-place : goal.invariant-loop-place
invariant-loop-place l = (k : ℕ) → k < l.place → (m : ℕ) → ¬ EntailsAt l.rules.axioms l.inserts l.deletes k m
