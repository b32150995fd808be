use Rattle.owl_read.proofs.ExactReading.{reads_one}
use Rattle.owl_read.proofs.laws.reads_one.Goals as goal

pub returns : goal.returns
returns c bytes r s = reads_one bytes r s
