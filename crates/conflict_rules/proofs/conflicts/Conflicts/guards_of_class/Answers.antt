use Rattle.conflict_rules.proofs.Adding.{class_guards}
use Rattle.conflict_rules.proofs.conflicts.Conflicts.guards_of_class.Goals as goal

pub returns-clause-exact : goal.returns-clause-exact
returns-clause-exact c g = class_guards c.args.self.now c.args.class c.args.name.now c.in_ok-guards.guards.items c.in_ok-guards.ensures c.requires g
