use Rattle.dl_laws.proofs.ClashTelling.{told_clash, told_entails, told_meets}
use Rattle.dl_laws.proofs.decisions.questions_are_decided.Goals as goal

pub returns-clause-clash : goal.returns-clause-clash
returns-clause-clash c axioms facts = told_clash axioms facts

pub returns-clause-entailed : goal.returns-clause-entailed
returns-clause-entailed c axioms f g = told_entails axioms f g

pub returns-clause-meets : goal.returns-clause-meets
returns-clause-meets c axioms inserts deletes f = told_meets axioms inserts deletes f
