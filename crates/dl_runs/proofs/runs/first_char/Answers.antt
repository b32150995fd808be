use Rattle.dl_runs.proofs.CharLaws.{nothing_begins}
use Rattle.dl_runs.proofs.runs.first_char.Goals as goal

pub returns-in-None : goal.returns-in-None
returns-in-None c = nothing_begins c.args.bytes.now c.in-None.ensures.cases
