use Rattle.dl_laws.proofs.RowLaws.{comes, came}
use Rattle.dl_laws.proofs.laws.derived_from_one_row.Goals as goal

pub returns : goal.returns
returns c axioms facts r = (comes axioms facts r, came axioms facts r)
