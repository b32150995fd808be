use Rattle.ntriples.proofs.AgainFiles.{printed_reads}
use Rattle.ntriples.proofs.laws.printed_reads.Goals as goal

pub returns : goal.returns
returns c theory facts once = printed_reads theory once facts
