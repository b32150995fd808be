use Rattle.std.proofs.Common.{List, sym, ◌∙◌, subst}
use Rattle.std.specs.Prelude.{Contains}
use Rattle.dl_base.specs.Clash.{IsConsistent}
use Rattle.dl_base.specs.declared.statements.Fact.{Fact}
use Rattle.loading.proofs.tests.sets.over.Goals as goal

pub counted-requires-clause-consistent : goal.counted-requires-clause-consistent
counted-requires-clause-consistent g c = subst (λ (fs : List Fact). IsConsistent c.args.rules.now.axioms fs) (c.as_slice-2.ensures.value ∙ c.in_ok-all.ensures.all) c.in_default.ensures.consistent

pub counted-requires-clause-known : goal.counted-requires-clause-known
counted-requires-clause-known g c f m = c.knows_all.ensures.0 c.if-not-knows_all.false f (subst (λ (fs : List Fact). Contains fs f) (sym (c.as_slice.ensures.value ∙ c.in_ok-all.ensures.all)) m)
