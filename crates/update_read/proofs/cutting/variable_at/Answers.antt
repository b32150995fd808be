use Rattle.update_read.proofs.PieceLaws.{no_variable}
use Rattle.update_read.proofs.cutting.variable_at.Goals as goal

pub returns-in-None : goal.returns-in-None
returns-in-None c b shape rest i = no_variable b c.args.behind.now i c.in-None.ensures shape rest
