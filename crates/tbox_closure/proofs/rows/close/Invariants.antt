use Rattle.tbox_closure.specs.Marks.{all_spare}
use Rattle.tbox_closure.specs.Graphs.{Grows}
use Rattle.tbox_closure.proofs.rows.close.Given as goal

abbrev pub invariant-loop-alloc : goal.invariant-loop-alloc
invariant-loop-alloc l = Grows l.edges l.fn.rows l.rows

abbrev pub decreases-loop-alloc : goal.decreases-loop-alloc
decreases-loop-alloc l = all_spare l.rows
