use Rattle.entail_guards.proofs.FollowLaws.{class_gains, role_gains, attr_gains}
use Rattle.entail_guards.proofs.entailers.Entailers.add_term.Goals as goal

pub returns-in_ok-add_class-in-Class-clause-gains : goal.returns-in_ok-add_class-in-Class-clause-gains
returns-in_ok-add_class-in-Class-clause-gains c = class_gains c.args.self.now.axioms c.args.given.now _ c.args.term _ c.args.facts.now.items c.add_class.new.facts.items c.in-Class.is c.in_ok-add_class-in-Class.ensures.gains

pub returns-in_ok-add_for_role-in-Role-clause-gains : goal.returns-in_ok-add_for_role-in-Role-clause-gains
returns-in_ok-add_for_role-in-Role-clause-gains c = role_gains c.args.self.now.axioms c.args.given.now _ c.args.term _ _ c.args.facts.now.items c.add_for_role.new.facts.items c.in-Role.is c.in_ok-add_for_role-in-Role.ensures.gains

pub returns-in_ok-add_for_attr-in-Attr-clause-gains : goal.returns-in_ok-add_for_attr-in-Attr-clause-gains
returns-in_ok-add_for_attr-in-Attr-clause-gains c = attr_gains c.args.self.now.axioms c.args.given.now _ c.args.term _ _ c.args.facts.now.items c.add_for_attr.new.facts.items c.in-Attr.is c.in_ok-add_for_attr-in-Attr.ensures.gains
