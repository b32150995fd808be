use Rattle.fact_index.proofs.NumberLaws.{name_eq, name_same, name_exact, number_is}
use Rattle.fact_index.proofs.numbers.Numbers.of_name.Goals as goal

pub returns : goal.returns
returns c = rw (← c.self.view_is) (number_is name_eq name_same name_exact c.self.inside.names.keys c.args.name.now c.number_of.result c.self.invariant.0 c.number_of.ensures)
