use Rattle.dl_text.proofs.LiteralLaws.{value_again}
use Rattle.dl_text.proofs.laws.value_again.Goals as goal

pub returns : goal.returns
returns c = value_again
