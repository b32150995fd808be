use Rattle.dl_laws.proofs.Emptying.{empty_concept_is, empty_role_is, empty_attr_is}
use Rattle.dl_laws.proofs.laws.emptiness_by_reachability.Goals as goal

pub returns-clause-concepts : goal.returns-clause-concepts
returns-clause-concepts c axioms b = empty_concept_is axioms b

pub returns-clause-roles : goal.returns-clause-roles
returns-clause-roles c axioms p = empty_role_is axioms p

pub returns-clause-attrs : goal.returns-clause-attrs
returns-clause-attrs c axioms u = empty_attr_is axioms u
