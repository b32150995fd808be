use Rattle.std.proofs.Common.{take}
use Rattle.tbox_closure.specs.Graphs.{AreMarked}
use Rattle.tbox_closure.proofs.rows.are_marked.Given as goal

abbrev pub invariant-loop-edge : goal.invariant-loop-edge
invariant-loop-edge l = AreMarked (take l.edge-index l.edges) l.rows
