use Rattle.dl_runs.proofs.NameLaws.{whole_comment}
use Rattle.dl_runs.proofs.cuts.after_comment.Goals as goal

pub returns-in-None : goal.returns-in-None
returns-in-None c = whole_comment c.args.bytes.now c.in-None.ensures
