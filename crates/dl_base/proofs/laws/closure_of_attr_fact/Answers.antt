use Rattle.dl_base.proofs.SingleLinks.{concept_of_attr_fact, attr_of_attr_fact}
use Rattle.dl_base.proofs.laws.closure_of_attr_fact.Goals as goal

pub returns-clause-concepts : goal.returns-clause-concepts
returns-clause-concepts c axioms u a x v k = concept_of_attr_fact axioms u a v x k

pub returns-clause-attrs : goal.returns-clause-attrs
returns-clause-attrs c axioms u t a x v w = attr_of_attr_fact axioms u a v x w t
