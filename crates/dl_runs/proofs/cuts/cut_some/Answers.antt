use Rattle.dl_runs.proofs.NameLaws.{some_never, some_longest, none_there, some_there}
use Rattle.dl_runs.proofs.cuts.cut_some.Goals as goal

pub returns-then-is_empty : goal.returns-then-is_empty
returns-then-is_empty c =
    some_never c.args.class c.args.bytes.now c.run.result.0.now c.run.result.1.now c.run.ensures (none_there c.is_empty.result c.run.result.0.now c.is_empty.ensures c.if-is_empty.true)

pub returns-else-is_empty : goal.returns-else-is_empty
returns-else-is_empty c =
    some_longest c.args.class c.args.bytes.now c.run.result.0.now c.run.result.1.now c.run.ensures (some_there c.is_empty.result c.run.result.0.now c.is_empty.ensures c.if-is_empty.false)
