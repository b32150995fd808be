use Rattle.dl_text.proofs.PrintingLaws.{written_undoes}
use Rattle.dl_text.proofs.laws.written_reads.Goals as goal

pub returns : goal.returns
returns c = written_undoes
