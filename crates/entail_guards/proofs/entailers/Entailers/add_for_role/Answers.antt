use Rattle.std.proofs.Common.{refl}
use Rattle.entail_guards.proofs.FollowLaws.{gains_roles, gains_classes}
use Rattle.entail_guards.proofs.entailers.Entailers.add_for_role.Goals as goal

pub returns-then-is_role-clause-gains : goal.returns-then-is_role-clause-gains
returns-then-is_role-clause-gains c = gains_roles c.args.self.now c.args.given.now c.args.term c.args.from.now c.args.to.now c.requires.known c.requires.given c.args.facts.now.items c.add_role.new.facts.items c.add_role-then-is_role.new.facts.items
    (c.if-is_role.ensures.0 refl) c.in_ok-add_role.ensures.gains c.in_ok-add_role-2.ensures.gains

pub returns-clause-gains : goal.returns-clause-gains
returns-clause-gains c = gains_classes c.args.self.now c.args.given.now c.args.term c.args.from.now c.args.to.now c.requires.known c.requires.given c.args.facts.now.items c.add_class.new.facts.items c.add_class-2.new.facts.items
    (λ r. let e = c.if-is_role.ensures.1 r in cc) c.in_ok-add_class.ensures.gains c.in_ok-add_class-2.ensures.gains
