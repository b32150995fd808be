use Rattle.dl_base.specs.declared.statements.Fact.TheVariants as fact
use Rattle.entail_guards.proofs.FollowLaws.{two_gains}
use Rattle.entail_guards.proofs.entailers.Entailers.add_for_attr.Goals as goal

pub returns-clause-gains : goal.returns-clause-gains
returns-clause-gains c = two_gains c.args.self.now.axioms c.args.given.now (fact.Class c.args.term c.args.from.now) (fact.Attr c.args.term c.args.from.now c.args.value.now) c.args.facts.now.items c.add_class.new.facts.items c.add_attr.new.facts.items c.in_ok-add_class.ensures.gains c.in_ok-add_attr.ensures.gains
