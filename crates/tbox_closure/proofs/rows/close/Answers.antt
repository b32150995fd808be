use Rattle.tbox_closure.proofs.RowLaws.{grows_same, grows_on}
use Rattle.tbox_closure.proofs.rows.close.Goals as goal

pub loop-alloc-init : goal.loop-alloc-init
loop-alloc-init c = grows_same c.args.edges.now c.args.rows.now

pub loop-alloc-preserved : goal.loop-alloc-preserved
loop-alloc-preserved c = grows_on c.args.edges.now c.args.rows.now c.loop-alloc.rows c.sweep.new.rows c.loop-alloc.invariant c.sweep.ensures.grows

pub returns-clause-grows : goal.returns-clause-grows
returns-clause-grows c = grows_on c.args.edges.now c.args.rows.now c.loop-alloc.rows c.sweep.new.rows c.loop-alloc.invariant c.sweep.ensures.grows
