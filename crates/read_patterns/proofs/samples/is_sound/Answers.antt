use Rattle.std.proofs.Common.{sym, ◌∙◌, ap}
use Rattle.std.specs.Prelude.{not}
use Rattle.std.proofs.lemmas.Bool.{false≢true}
use Rattle.read_patterns.proofs.samples.is_sound.Goals as goal

pub returns : goal.returns
returns c h clash = false≢true (sym (ap not (c.alone.ensures.1 clash)) ∙ h)
