use Rattle.entail_guards.proofs.Entailment.{told_entailed}
use Rattle.entail_guards.proofs.entailers.Entailers.entails.Goals as goal

pub returns-in-Class : goal.returns-in-Class
returns-in-Class c = told_entailed c.args.self.now.axioms c.args.first.now c.entails_class.result c.args.second.now _ c.in-Class.is c.entails_class.ensures

pub returns-in-Role : goal.returns-in-Role
returns-in-Role c = told_entailed c.args.self.now.axioms c.args.first.now c.entails_role.result c.args.second.now _ c.in-Role.is c.entails_role.ensures

pub returns-in-Attr : goal.returns-in-Attr
returns-in-Attr c = told_entailed c.args.self.now.axioms c.args.first.now c.entails_attr.result c.args.second.now _ c.in-Attr.is c.entails_attr.ensures
