use Rattle.std.proofs.Common.{List, refl, subst}
use Rattle.dl_base.specs.Clash.{IsConsistent}
use Rattle.dl_base.specs.declared.statements.Fact.{Fact}
use Rattle.interleavings.proofs.serving.served.Goals as goal

pub serve-requires-clause-consistent : goal.serve-requires-clause-consistent
serve-requires-clause-consistent c = subst (λ (fs : List Fact). IsConsistent c.args.rules.now.axioms fs) c.as_slice.ensures.same (c.if-not-are_fit.ensures.consistent refl)
