use Rattle.std.proofs.Common.{subst}
use Rattle.std.specs.Prelude.{Contains}
use Rattle.dl_base.specs.declared.statements.Fact.{Fact}
use Rattle.fact_delta.specs.Deltas.{Over}
use Rattle.fact_delta.proofs.delta.Delta.went.Goals as goal

pub returns-clause-old : goal.returns-clause-old
returns-clause-old g c = subst (λ (d : Over). (f : Fact) → Contains d.went f → Contains d.base f) c.self.view_is c.self.invariant.old
