use Rattle.std.proofs.Common.{subst}
use Rattle.update_read.specs.declared.progress.Progress.{Progress}
use Rattle.update_read.specs.Going.{Fits}
use Rattle.update_read.proofs.reading.finish.Goals as goal

pub returns-in-Going : goal.returns-in-Going
returns-in-Going c theory all h = c.ended.ensures theory _ all (subst (λ (p : Progress). Fits theory p all) c.in-Going.is h)
