use Rattle.fact_index.proofs.NumberLaws.{value_eq, value_same, value_exact, number_is}
use Rattle.fact_index.proofs.numbers.Numbers.of_value.Goals as goal

pub returns : goal.returns
returns c = rw (← c.self.view_is) (number_is value_eq value_same value_exact c.self.inside.values.keys c.args.value.now c.number_of.result c.self.invariant.1 c.number_of.ensures)
