use Rattle.dl_laws.proofs.Stepping.{step_updates, step_loses}
use Rattle.dl_laws.proofs.decisions.stored_step.Goals as goal

pub returns-clause-update : goal.returns-clause-update
returns-clause-update c axioms old inserts deletes new k w s = step_updates axioms old inserts deletes new k w s

pub returns-clause-lost : goal.returns-clause-lost
returns-clause-lost c axioms old inserts deletes new k w s f = step_loses axioms old inserts deletes new k w s f
