use Rattle.fact_index.proofs.NumberLaws.{none_stand, found_passes}
use Rattle.fact_index.proofs.numbers.number_of.Goals as goal

pub returns-in_err-place : goal.returns-in_err-place
returns-in_err-place g c = rw c.from_residual.ensures (none_stand g.T.PartialEq.eq c.args.table.now.keys c.args.item.now c.in_err-place.ensures.found)

pub returns : goal.returns
returns g c = (c.in_ok-place.field-0-1.now, (c.in_ok-place.ensures.stored, found_passes (g.T.PartialEq.eq c.args.item.now) c.args.table.now.keys c.in_ok-place.field-0-1.now c.in_ok-place.ensures.key))
