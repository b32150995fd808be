use Rattle.update_read.proofs.PieceLaws.{no_text}
use Rattle.update_read.proofs.cutting.text_at.Goals as goal

pub returns-in-None : goal.returns-in-None
returns-in-None c = no_text c.args.quote c.args.behind.now c.requires c.in-None.ensures
