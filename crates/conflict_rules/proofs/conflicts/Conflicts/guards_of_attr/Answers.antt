use Rattle.conflict_rules.proofs.AttrGuarding.{attr_guards}
use Rattle.conflict_rules.proofs.conflicts.Conflicts.guards_of_attr.Goals as goal

pub returns-clause-exact : goal.returns-clause-exact
returns-clause-exact c g = attr_guards c.args.self.now c.args.attr c.args.name.now c.args.value.now c.in_ok-guards.guards.items c.in_ok-guards.ensures c.requires g
