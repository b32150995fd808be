use Rattle.dl_laws.proofs.ClashTelling.{told_meets}
use Rattle.dl_laws.proofs.Listing.{entailed, lists_entailed}
use Rattle.dl_laws.proofs.decisions.premises_are_met.Goals as goal

pub returns-clause-update : goal.returns-clause-update
returns-clause-update c axioms old inserts deletes f m = told_meets axioms inserts deletes f

pub returns-clause-decided : goal.returns-clause-decided
returns-clause-decided c theory requests inserts deletes f m w k = told_meets theory.axioms inserts deletes f

pub returns-clause-listed : goal.returns-clause-listed
returns-clause-listed c theory f k = (entailed theory.axioms f, lists_entailed theory.axioms f)
