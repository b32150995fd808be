use Rattle.std.proofs.Common.{List, subst}
use Rattle.dl_base.specs.Clash.{IsConsistent}
use Rattle.dl_base.specs.declared.statements.Fact.{Fact}
use Rattle.update_engine.proofs.university.answer.Goals as goal

pub counted-requires-clause-consistent : goal.counted-requires-clause-consistent
counted-requires-clause-consistent g c = subst (λ (fs : List Fact). IsConsistent c.args.rules.now.axioms fs) c.as_slice-2.ensures.same c.in_default.ensures.consistent
