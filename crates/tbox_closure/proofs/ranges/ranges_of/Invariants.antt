use Rattle.std.proofs.Common.{take}
use Rattle.tbox_closure.specs.Tables.{AreRanges}
use Rattle.tbox_closure.proofs.ranges.ranges_of.Given as goal

abbrev pub invariant-loop-it : goal.invariant-loop-it
invariant-loop-it l = AreRanges (take l.it-index l.axioms) l.ranges.items
