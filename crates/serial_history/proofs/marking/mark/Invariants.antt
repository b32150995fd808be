use Rattle.std.proofs.Common.{take}
use Rattle.serial_history.specs.Marks.{Marks}
use Rattle.serial_history.proofs.marking.mark.Given as goal

abbrev pub invariant-loop-fact : goal.invariant-loop-fact
invariant-loop-fact l = Marks l.gone (take l.fact-index l.facts) l.changed.items
