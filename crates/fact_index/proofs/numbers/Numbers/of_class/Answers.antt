use Rattle.fact_index.specs.Numbers.{IsLinkOf}
use Rattle.dl_base.specs.declared.statements.Fact.TheVariants as fact
use Rattle.fact_index.proofs.FactLaws.{number_found, class_linked, in_some}
use Rattle.fact_index.proofs.numbers.Numbers.of_class.Goals as goal

pub returns : goal.returns
returns c =
    rw c.link.ensures
    (in_some (IsLinkOf c.args.self.now (fact.Class c.args.class c.args.a.now)) _ (class_linked c.args.self.now c.args.class c.args.a.now c.in_ok-from.from (number_found _ _ _ c.in_ok-from.ensures)))
