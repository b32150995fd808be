use Rattle.std.proofs.Common.{refl}
use Rattle.entail_guards.proofs.AskLaws.{asks_role, asks_other}
use Rattle.entail_guards.proofs.FewLaws.{adds_two}
use Rattle.entail_guards.proofs.entailers.Entailers.add_of_term.Goals as goal

pub returns-then-is_role-clause-asks : goal.returns-then-is_role-clause-asks
returns-then-is_role-clause-asks c = asks_role c.args.self.now c.args.term c.args.pattern.now c.args.patterns.now.items c.add_by.new.patterns.items c.add_by-then-is_role.new.patterns.items
    (c.if-is_role.ensures.0 refl) c.in_ok-add_by.ensures.asks c.in_ok-add_by-2.ensures.asks

pub returns-clause-asks : goal.returns-clause-asks
returns-clause-asks c = asks_other c.args.self.now c.args.term c.args.pattern.now c.args.patterns.now.items c.add_by-2.new.patterns.items c.add_by-3.new.patterns.items
    (λ r. let e = c.if-is_role.ensures.1 r in cc) c.in_ok-add_by-3.ensures.asks c.in_ok-add_by-4.ensures.asks

pub returns-then-is_role-clause-each : goal.returns-then-is_role-clause-each
returns-then-is_role-clause-each c = adds_two c.args.term.0 c.args.patterns.now.items c.add_by.new.patterns.items c.add_by-then-is_role.new.patterns.items c.in_ok-add_by.ensures.each c.in_ok-add_by-2.ensures.each

pub returns-clause-each : goal.returns-clause-each
returns-clause-each c = adds_two c.args.term.0 c.args.patterns.now.items c.add_by-2.new.patterns.items c.add_by-3.new.patterns.items c.in_ok-add_by-3.ensures.each c.in_ok-add_by-4.ensures.each
