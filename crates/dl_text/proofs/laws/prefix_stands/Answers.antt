use Rattle.dl_text.proofs.PrefixLaws.{stands_for, others_stand}
use Rattle.dl_text.proofs.laws.prefix_stands.Goals as goal

pub returns-clause-here : goal.returns-clause-here
returns-clause-here c = stands_for

pub returns-clause-others : goal.returns-clause-others
returns-clause-others c = others_stand
