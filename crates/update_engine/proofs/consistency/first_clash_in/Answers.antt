use Rattle.std.proofs.Common.{refl}
use Rattle.dl_base.proofs.NamingLaws.{no_clash_named}
use Rattle.update_engine.proofs.consistency.first_clash_in.Goals as goal

pub first_pair_in-requires-clause-alone : goal.first_pair_in-requires-clause-alone
first_pair_in-requires-clause-alone g c = c.in_default.ensures.none refl

pub returns-clause-consistent : goal.returns-clause-consistent
returns-clause-consistent g c = no_clash_named c.args.rules.now.axioms c.args.facts.now (c.in_default.ensures.none refl) (c.in_ok-place.ensures.none c.in_default-2.is)
