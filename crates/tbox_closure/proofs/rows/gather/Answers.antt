use Rattle.tbox_closure.proofs.RowLaws.{gathered}
use Rattle.tbox_closure.proofs.rows.gather.Goals as goal

pub returns : goal.returns
returns c = gathered c.args.edges.now c.args.rows.now c.close.new.rows c.close.ensures.grows c.close.ensures.closed
