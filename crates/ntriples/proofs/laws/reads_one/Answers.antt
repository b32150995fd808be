use Rattle.ntriples.proofs.ExactFiles.{reads_one}
use Rattle.ntriples.proofs.laws.reads_one.Goals as goal

pub returns : goal.returns
returns c = reads_one
