use Rattle.dl_base.proofs.SingleLinks.{concept_of_role_fact, role_of_role_fact}
use Rattle.dl_base.proofs.laws.closure_of_role_fact.Goals as goal

pub returns-clause-concepts : goal.returns-clause-concepts
returns-clause-concepts c axioms p a b x k = concept_of_role_fact axioms p a b x k

pub returns-clause-roles : goal.returns-clause-roles
returns-clause-roles c axioms p a b x y q = role_of_role_fact axioms p a b x y q
