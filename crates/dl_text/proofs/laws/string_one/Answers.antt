use Rattle.dl_text.proofs.ReadingLaws.{string_one}
use Rattle.dl_text.proofs.laws.string_one.Goals as goal

pub returns : goal.returns
returns c = string_one
