use Rattle.update_read.proofs.ExactText.{reads_one}
use Rattle.update_read.proofs.laws.reads_one.Goals as goal

pub returns : goal.returns
returns c theory bytes r s = reads_one theory bytes r s
