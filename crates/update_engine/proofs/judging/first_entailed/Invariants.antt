use Rattle.std.proofs.Common.{◌≡◌, ℕ, ◌<◌, [], ◌∷◌}
use Rattle.std.specs.Prelude.{Some, slice_get}
use Rattle.dl_base.specs.Derivation.{InClosure}
use Rattle.dl_base.specs.declared.statements.Fact.{Fact}
use Rattle.update_engine.proofs.judging.first_entailed.Given as goal

abbrev pub invariant-loop-place : goal.invariant-loop-place
invariant-loop-place l = (k : ℕ) → k < l.place → ¬ ((g : Fact) × (slice_get l.deletes k ≡ Some g) × InClosure l.rules.axioms (l.given ∷ []) g)
