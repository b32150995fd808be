use Rattle.fact_index.specs.Numbers.{IsLinkOf}
use Rattle.dl_base.specs.declared.statements.Fact.TheVariants as fact
use Rattle.fact_index.proofs.FactLaws.{number_found, attr_linked, in_some}
use Rattle.fact_index.proofs.numbers.Numbers.of_attr.Goals as goal

pub returns : goal.returns
returns c =
    rw c.link.ensures
    (in_some (IsLinkOf c.args.self.now (fact.Attr c.args.attr c.args.a.now c.args.v.now)) _
    (attr_linked c.args.self.now c.args.attr c.args.a.now c.args.v.now c.in_ok-from.from c.in_ok-to.to (number_found _ _ _ c.in_ok-from.ensures) (number_found _ _ _ c.in_ok-to.ensures)))
