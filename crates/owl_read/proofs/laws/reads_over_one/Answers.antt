use Rattle.owl_read.proofs.ExactReading.{reads_over_one}
use Rattle.owl_read.proofs.laws.reads_over_one.Goals as goal

pub returns : goal.returns
returns c terms bytes r s = reads_over_one terms bytes r s
