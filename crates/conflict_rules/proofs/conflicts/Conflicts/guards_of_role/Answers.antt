use Rattle.conflict_rules.proofs.RoleGuarding.{role_guards}
use Rattle.conflict_rules.proofs.conflicts.Conflicts.guards_of_role.Goals as goal

pub returns-clause-exact : goal.returns-clause-exact
returns-clause-exact c g = role_guards c.args.self.now c.args.role c.args.from.now c.args.to.now c.terms-terms.ensures.sound.valid c.in_ok-guards.guards.items c.in_ok-guards.ensures c.requires g
