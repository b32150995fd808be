use Rattle.std.proofs.Common.{◌≡◌, ◌++◌, drop}
use Rattle.std.specs.List.{flat_map}
use Rattle.owl_read.specs.Table.{apart}
use Rattle.owl_read.proofs.table.separate_all.Given as goal

abbrev pub invariant-loop-other : goal.invariant-loop-other
invariant-loop-other l = l.axioms.items ++ flat_map (apart l.one) (drop l.other-index l.others) ≡ l.initial.axioms.items ++ flat_map (apart l.one) l.others
