use Rattle.std.proofs.Common.{refl}
use Rattle.dl_base.proofs.NamingLaws.{unnamed_well}
use Rattle.update_engine.proofs.NameLaws.{none_alone_of, no_pair_of}
use Rattle.update_engine.proofs.judging.judge.Goals as goal

pub first_entails-requires : goal.first_entails-requires
first_entails-requires c = c.in-None.ensures.consistent

pub returns-clause-ok : goal.returns-clause-ok
returns-clause-ok c =
    let axioms = c.args.rules.now.axioms in
    let inserts = c.args.inserts.now in
    let consistent = c.in-None.ensures.consistent in
    unnamed_well axioms inserts c.args.deletes.now (none_alone_of axioms inserts consistent) (no_pair_of axioms inserts consistent) (c.in_default.ensures.none refl)
