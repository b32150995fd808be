use Rattle.dl_text.proofs.Utf8Laws.{utf8_one}
use Rattle.dl_text.proofs.laws.utf8_one.Goals as goal

pub returns : goal.returns
returns c = utf8_one
