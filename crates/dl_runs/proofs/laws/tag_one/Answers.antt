use Rattle.dl_runs.specs.Classes.{IsTag}
use Rattle.dl_runs.proofs.ExactLaws.{longest_one}
use Rattle.dl_runs.proofs.laws.tag_one.Goals as goal

pub returns : goal.returns
returns c raw v w m n = longest_one IsTag raw v w m n
