use Rattle.std.proofs.Common.{ℕ, ◌<◌}
use Rattle.dl_base.specs.IllFormed.{ClashAt}
use Rattle.update_engine.proofs.clashes.first_partner.Given as goal

abbrev pub invariant-loop-other : goal.invariant-loop-other
invariant-loop-other l = (k : ℕ) → k < l.other → ¬ ClashAt l.rules.axioms l.facts l.place k
