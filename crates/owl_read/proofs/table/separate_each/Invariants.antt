use Rattle.std.proofs.Common.{◌≡◌, ◌++◌, length}
use Rattle.owl_read.specs.Table.{all_apart}
use Rattle.owl_read.proofs.table.separate_each.Given as goal

abbrev pub invariant-loop-one : goal.invariant-loop-one
invariant-loop-one l = l.axioms.items ++ all_apart l.rest ≡ l.initial.axioms.items ++ all_apart l.initial.rest

abbrev pub decreases-loop-one : goal.decreases-loop-one
decreases-loop-one l = length l.rest
