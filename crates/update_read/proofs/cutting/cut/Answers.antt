use Rattle.update_read.proofs.PieceLaws.{no_number_here}
use Rattle.update_read.proofs.cutting.cut.Goals as goal

pub returns-in-None : goal.returns-in-None
returns-in-None c =
    no_number_here c.args.here.now c.in-Some.first.now c.in-Some.behind.now c.in-Some.ensures.cases.0 (c.begins_number.ensures.0 c.if-begins_number.true) c.in-None.ensures
