use Rattle.std.proofs.Common.{subst}
use Rattle.read_patterns.specs.Effects.{AreEffects}
use Rattle.transaction.specs.Serving.{Open}
use Rattle.transaction.proofs.transactions.Transaction.into_parts.Goals as goal

pub returns-clause-effects : goal.returns-clause-effects
returns-clause-effects g c =
    let w = c.self.inside in
    let m = c.self.invariant.makes in
    subst (λ (o : Open). AreEffects o.ontology.axioms o.base w.recorded w.put.items w.taken.items) c.self.view_is
    (_, m.replies, m.run, m.stays_put, m.stays_taken)
