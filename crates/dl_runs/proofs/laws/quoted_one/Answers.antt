use Rattle.dl_runs.proofs.ExactLaws.{quoted_one}
use Rattle.dl_runs.proofs.laws.quoted_one.Goals as goal

pub returns : goal.returns
returns c = quoted_one
