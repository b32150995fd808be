use Rattle.std.proofs.Common.{ℕ, ◌<◌, ◌≤◌, ◌+◌, ◌*◌, length}
use Rattle.dl_base.specs.Clash.{IsConsistent}
use Rattle.dl_base.specs.IllFormed.{ClashAt}
use Rattle.update_engine.proofs.consistency.first_pair_in.Given as goal

abbrev pub invariant-loop-place : goal.invariant-loop-place
invariant-loop-place g l = record {
  none : (k : ℕ) → k < l.place → (m : ℕ) → ¬ ClashAt l.rules.axioms l.facts k m;
  counted : IsConsistent l.rules.axioms l.facts → l.steps ≤ l.fn.steps + 8 * length l.rules.terms * l.place;
}
