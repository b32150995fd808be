use Rattle.std.proofs.Common.{take}
use Rattle.dl_base.specs.Changing.{Brings}
use Rattle.dl_base.proofs.changing.added_facts.Given as goal

abbrev pub invariant-loop-change : goal.invariant-loop-change
invariant-loop-change l = Brings (take l.change-index l.changed) l.facts.items
