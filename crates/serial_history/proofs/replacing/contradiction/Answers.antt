use Rattle.std.proofs.Common.{◌∙◌, subst}
use Rattle.dl_base.specs.Clash.{IsConsistent}
use Rattle.serial_history.proofs.replacing.contradiction.Goals as goal

pub returns-in-None : goal.returns-in-None
returns-in-None g c = subst (IsConsistent c.args.rules.now.axioms) (c.as_slice.ensures.value ∙ c.in-Ok.ensures.all) (rw c.in-None.is at c.in-Ok-clash_in.ensures.consistent)
