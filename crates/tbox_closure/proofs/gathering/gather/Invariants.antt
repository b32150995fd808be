use Rattle.std.proofs.Common.{◌≡◌, take}
use Rattle.tbox_closure.specs.Edges as edge
use Rattle.tbox_closure.proofs.gathering.gather.Given as goal

abbrev pub invariant-loop-it : goal.invariant-loop-it
invariant-loop-it l = l.edges.items ≡ edge.all_edges l.part (take l.it-index l.axioms)
