use Rattle.std.proofs.Common.{take}
use Rattle.std.specs.Prelude.{Contains}
use Rattle.dl_base.specs.Changing.{removed}
use Rattle.dl_base.proofs.changing.is_removed.Given as goal

abbrev pub invariant-loop-change : goal.invariant-loop-change
invariant-loop-change l = ¬ Contains (take l.change-index l.changed) (removed l.fact)
