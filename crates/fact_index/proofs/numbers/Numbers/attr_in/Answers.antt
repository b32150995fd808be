use Rattle.fact_index.proofs.NumberLaws.{kept_at}
use Rattle.fact_index.proofs.FactLaws.{number_once, attr_linked}
use Rattle.fact_index.proofs.numbers.Numbers.attr_in.Goals as goal

pub returns-clause-linked : goal.returns-clause-linked
returns-clause-linked c =
    let from = kept_at _ _ _ _ c.in_ok-to.ensures.grown.names c.in_ok-from.ensures.numbered in
    rw c.link.ensures
    (attr_linked c.value_in.new.self c.args.attr c.args.a.now c.args.v.now c.in_ok-from.from c.in_ok-to.to (number_once _ _ _ c.in_ok-to.ensures.once.0 from) (number_once _ _ _ c.in_ok-to.ensures.once.1 c.in_ok-to.ensures.numbered))
