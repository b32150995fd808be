use Rattle.dl_runs.proofs.NameLaws.{prefix_is, prefix_never, some_there}
use Rattle.dl_runs.proofs.cuts.cut_prefix.Goals as goal

pub returns-in_default : goal.returns-in_default
returns-in_default c prefix after e p = c.in_default.ensures after (prefix_is c.args.bytes.now c.run_undotted.result.0.now c.run_undotted.result.1.now prefix after c.run_undotted.ensures e p).1

pub returns-in-None : goal.returns-in-None
returns-in-None c prefix after =
    prefix_never c.args.bytes.now c.run_undotted.result.0.now c.run_undotted.result.1.now prefix after c.run_undotted.ensures (some_there c.is_empty.result c.run_undotted.result.0.now c.is_empty.ensures c.if-is_empty.false) c.in-None.ensures
