use Rattle.dl_text.proofs.PrefixLaws.{resolve_one}
use Rattle.dl_text.proofs.laws.resolve_one.Goals as goal

pub returns : goal.returns
returns c = resolve_one
