use Rattle.dl_text.proofs.LiteralLaws.{reading_one}
use Rattle.dl_text.proofs.laws.value_one.Goals as goal

pub returns : goal.returns
returns c = reading_one
