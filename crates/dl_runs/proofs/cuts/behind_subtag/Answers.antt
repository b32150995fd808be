use Rattle.dl_runs.proofs.NameLaws.{no_subtag, none_there}
use Rattle.dl_runs.proofs.cuts.behind_subtag.Goals as goal

pub returns-then-is_empty : goal.returns-then-is_empty
returns-then-is_empty c =
    no_subtag c.args.bytes.now c.in-Some.after.now c.run.result.0.now c.run.result.1.now c.in-Some.ensures c.run.ensures (none_there c.is_empty.result c.run.result.0.now c.is_empty.ensures c.if-is_empty.true)
