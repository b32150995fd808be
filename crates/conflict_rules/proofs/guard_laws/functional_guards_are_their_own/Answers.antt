use Rattle.conflict_rules.proofs.Bound.{roles_bound_same, attrs_bound_same}
use Rattle.conflict_rules.proofs.guard_laws.functional_guards_are_their_own.Goals as goal

pub returns-clause-roles : goal.returns-clause-roles
returns-clause-roles c axioms q r valid h = roles_bound_same axioms valid q r h

pub returns-clause-attrs : goal.returns-clause-attrs
returns-clause-attrs c axioms u w valid h = attrs_bound_same axioms valid u w h
