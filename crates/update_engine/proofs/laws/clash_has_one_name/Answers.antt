use Rattle.update_engine.proofs.NameLaws.{clash_is, one_clash}
use Rattle.update_engine.proofs.laws.clash_has_one_name.Goals as goal

pub returns-clause-clash : goal.returns-clause-clash
returns-clause-clash c = clash_is

pub returns-clause-one : goal.returns-clause-one
returns-clause-one c = one_clash
