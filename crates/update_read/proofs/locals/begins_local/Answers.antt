use Rattle.std.proofs.lemmas.Bool.{false≢true}
use Rattle.update_read.proofs.locals.begins_local.Goals as goal

pub returns-in-None : goal.returns-in-None
returns-in-None c = (λ f. absurd (false≢true f), λ h. absurd (c.in-None.ensures h.0 h.1 h.2))
