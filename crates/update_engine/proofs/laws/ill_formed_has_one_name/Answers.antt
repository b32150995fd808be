use Rattle.update_engine.proofs.NameLaws.{named_ill, one_name}
use Rattle.update_engine.proofs.laws.ill_formed_has_one_name.Goals as goal

pub returns-clause-ill_formed : goal.returns-clause-ill_formed
returns-clause-ill_formed c = named_ill

pub returns-clause-one : goal.returns-clause-one
returns-clause-one c = one_name
