use Rattle.dl_laws.proofs.Pairs.{pair_clash, collide_subject}
use Rattle.dl_laws.proofs.laws.clash_of_two_facts.Goals as goal

pub returns-clause-clash : goal.returns-clause-clash
returns-clause-clash c axioms f g one two = pair_clash axioms f g one two

pub returns-clause-shared : goal.returns-clause-shared
returns-clause-shared c axioms s t h = collide_subject axioms s t h
