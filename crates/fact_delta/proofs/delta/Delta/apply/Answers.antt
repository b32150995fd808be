use Rattle.std.proofs.Common.{sym, subst}
use Rattle.fact_delta.specs.Deltas.{Over, IsApplied, standing}
use Rattle.fact_delta.proofs.delta.Delta.apply.Goals as goal

pub returns-clause-ok : goal.returns-clause-ok
returns-clause-ok g c = subst (λ (o : Over). IsApplied (standing c.args.self.now) c.args.removed.now c.args.added.now (standing o)) (sym c.take.ensures) c.in_ok-moved.ensures.ok
