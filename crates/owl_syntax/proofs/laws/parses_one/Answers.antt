use Rattle.owl_syntax.proofs.ExactText.{parses_one}
use Rattle.owl_syntax.proofs.laws.parses_one.Goals as goal

pub returns : goal.returns
returns c bytes r s = parses_one bytes r s
