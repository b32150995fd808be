use Rattle.dl_runs.proofs.NameLaws.{name_longest, name_never}
use Rattle.dl_runs.proofs.cuts.cut_name.Goals as goal

pub returns-in-None : goal.returns-in-None
returns-in-None c name rest = name_never c.args.first c.args.more c.args.bytes.now c.run_undotted.result.0.now c.run_undotted.result.1.now c.run_undotted.ensures c.in-None.ensures name rest

pub returns-in-Some : goal.returns-in-Some
returns-in-Some c =
    name_longest c.args.first c.args.more c.args.bytes.now c.run_undotted.result.0.now c.run_undotted.result.1.now c.in-Some.field-0.now c.in-Some.ensures.0 c.run_undotted.ensures c.in-Some.ensures.1 c.in-Some.ensures.2
