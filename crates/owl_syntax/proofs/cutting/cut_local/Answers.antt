use Rattle.owl_syntax.proofs.NameLaws.{local_some}
use Rattle.owl_syntax.proofs.cutting.cut_local.Goals as goal

pub returns-in-Some : goal.returns-in-Some
returns-in-Some c =
    local_some c.args.bytes.now c.run_undotted.result.0.now c.run_undotted.result.1.now c.in-Some.field-0.now c.in-Some.ensures.0 c.in-Some.ensures.1 c.in-Some.ensures.2 c.run_undotted.ensures
