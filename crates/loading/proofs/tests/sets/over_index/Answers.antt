use Rattle.std.proofs.Common.{List, sym, ◌∙◌, subst}
use Rattle.std.specs.Prelude.{Contains}
use Rattle.dl_base.specs.declared.statements.Fact.{Fact}
use Rattle.dl_base.proofs.ClashLaws.{clash_more}
use Rattle.loading.proofs.tests.sets.over_index.Goals as goal

pub counted-requires-clause-consistent : goal.counted-requires-clause-consistent
counted-requires-clause-consistent c h = c.in_default.ensures.consistent
    (clash_more c.args.rules.now.axioms c.in_ok-index.index c.as_slice-3.result.now
    (λ f m. subst (λ (fs : List Fact). Contains fs f) (c.as_slice.ensures.value ∙ sym c.as_slice-3.ensures.value) ((c.in_ok-index.ensures.same f).0 m)) h)

pub counted-requires-clause-known : goal.counted-requires-clause-known
counted-requires-clause-known c f m = c.knows_all.ensures.0 c.if-not-knows_all.false f
    (subst (λ (fs : List Fact). Contains fs f) (c.as_slice.ensures.value ∙ sym c.as_slice-2.ensures.value) ((c.in_ok-index.ensures.same f).0 m))
