use Rattle.std.proofs.Common.{refl}
use Rattle.dl_base.proofs.NamingLaws.{no_clash_named}
use Rattle.update_engine.proofs.clashes.first_clash.Goals as goal

pub first_pair-requires : goal.first_pair-requires
first_pair-requires c = c.in_default.ensures.none refl

pub returns-clause-consistent : goal.returns-clause-consistent
returns-clause-consistent c = no_clash_named c.args.rules.now.axioms c.args.facts.now (c.in_default.ensures.none refl) (c.in_default-first_pair.ensures.none refl)
