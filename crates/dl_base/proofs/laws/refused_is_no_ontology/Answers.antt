use Rattle.dl_base.proofs.NamesLaws.{no_ontology}
use Rattle.dl_base.proofs.laws.refused_is_no_ontology.Goals as goal

pub returns : goal.returns
returns c theory r h = no_ontology theory r h
