use Rattle.dl_runs.specs.Classes.{IsLabel}
use Rattle.dl_runs.proofs.ExactLaws.{longest_one}
use Rattle.dl_runs.proofs.laws.label_one.Goals as goal

pub returns : goal.returns
returns c raw v w m n = longest_one IsLabel raw v w m n
