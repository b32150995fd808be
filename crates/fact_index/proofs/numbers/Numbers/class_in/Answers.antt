use Rattle.fact_index.proofs.FactLaws.{number_once, class_linked}
use Rattle.fact_index.proofs.numbers.Numbers.class_in.Goals as goal

pub returns-clause-linked : goal.returns-clause-linked
returns-clause-linked c =
    rw c.link.ensures (class_linked c.name_in.new.self c.args.class c.args.a.now c.in_ok-from.from (number_once _ _ _ c.in_ok-from.ensures.once.0 c.in_ok-from.ensures.numbered))
