use Rattle.conflict_rules.proofs.Guarding.{guards_exact}
use Rattle.conflict_rules.proofs.guard_laws.guards_are_exact.Goals as goal

pub returns : goal.returns
returns c axioms f g one two = guards_exact axioms f g one two
