use Rattle.fact_index.proofs.NumberLaws.{kept_at}
use Rattle.fact_index.proofs.FactLaws.{number_once, role_linked}
use Rattle.fact_index.proofs.numbers.Numbers.role_in.Goals as goal

pub returns-clause-linked : goal.returns-clause-linked
returns-clause-linked c =
    let from = kept_at _ _ _ _ c.in_ok-to.ensures.grown.names c.in_ok-from.ensures.numbered in
    rw c.link.ensures
    (role_linked c.name_in-2.new.self c.args.role c.args.a.now c.args.b.now c.in_ok-from.from c.in_ok-to.to (number_once _ _ _ c.in_ok-to.ensures.once.0 from) (number_once _ _ _ c.in_ok-to.ensures.once.0 c.in_ok-to.ensures.numbered))
