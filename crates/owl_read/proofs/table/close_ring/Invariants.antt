use Rattle.std.proofs.Common.{◌≡◌, ◌++◌, drop}
use Rattle.owl_read.specs.Table.{ring_from, ring}
use Rattle.owl_read.proofs.table.close_ring.Given as goal

abbrev pub invariant-loop-two : goal.invariant-loop-two
invariant-loop-two l = l.axioms.items ++ ring_from l.first l.one (drop l.two-index l.rest) ≡ l.initial.axioms.items ++ ring l.fn.sides
