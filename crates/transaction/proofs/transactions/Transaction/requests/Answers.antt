use Rattle.std.proofs.Common.{subst}
use Rattle.std.specs.Prelude.{All}
use Rattle.dl_base.specs.Transactions.{IsWell}
use Rattle.transaction.specs.Serving.{Open}
use Rattle.transaction.proofs.transactions.Transaction.requests.Goals as goal

pub returns-clause-well : goal.returns-clause-well
returns-clause-well g c = subst (λ (o : Open). All (IsWell o.ontology.axioms) o.requests) c.self.view_is c.self.invariant.well
