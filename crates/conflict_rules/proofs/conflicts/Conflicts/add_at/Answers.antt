use Rattle.std.proofs.Common.{sym, ◌∙◌}
use Rattle.std.proofs.lemmas.Bool.{false≢true}
use Rattle.conflict_rules.proofs.RoleGuarding.{of_role, of_other}
use Rattle.conflict_rules.proofs.conflicts.Conflicts.add_at.Goals as goal

pub returns-then-is_role : goal.returns-then-is_role
returns-then-is_role c = of_role c.args.self.now c.args.role c.args.from.now c.args.to.now c.args.term c.args.guards.now.items c.add_role_guards.new.guards.items (c.is_role.ensures.0 c.if-is_role.true) c.in_ok-add_role_guards.ensures

pub returns : goal.returns
returns c = of_other c.args.self.now c.args.role c.args.from.now c.args.to.now c.args.term c.args.guards.now.items c.add_other_guards.new.guards.items (λ h. false≢true (sym c.if-is_role.false ∙ c.is_role.ensures.1 h)) c.in_ok-add_other_guards.ensures
