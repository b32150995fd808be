use Rattle.std.proofs.Common.{take}
use Rattle.dl_base.specs.Picks.{Picks}
use Rattle.serial_history.specs.Changing.{IsHeldAs}
use Rattle.serial_history.proofs.changing.held_as.Given as goal

abbrev pub invariant-loop-fact : goal.invariant-loop-fact
invariant-loop-fact g l = Picks (IsHeldAs l.held (g.V.FactSet.facts l.version)) (take l.fact-index l.facts) l.picked.items
