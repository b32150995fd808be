use Rattle.dl_laws.proofs.Pairs.{alone_clash}
use Rattle.dl_laws.proofs.laws.clash_of_one_fact.Goals as goal

pub returns : goal.returns
returns c axioms f = alone_clash axioms f
