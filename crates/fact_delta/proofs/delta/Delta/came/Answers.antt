use Rattle.std.proofs.Common.{subst}
use Rattle.std.specs.Prelude.{Contains}
use Rattle.dl_base.specs.declared.statements.Fact.{Fact}
use Rattle.fact_delta.specs.Deltas.{Over}
use Rattle.fact_delta.proofs.delta.Delta.came.Goals as goal

pub returns-clause-new : goal.returns-clause-new
returns-clause-new g c = subst (λ (d : Over). (f : Fact) → Contains d.came f → ¬ Contains d.base f) c.self.view_is c.self.invariant.new
