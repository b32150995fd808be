use Rattle.std.proofs.Common.{List, sym, ◌∙◌, subst}
use Rattle.std.specs.Prelude.{Contains}
use Rattle.dl_base.specs.declared.statements.Fact.{Fact}
use Rattle.dl_base.specs.Ontologies.{Theory, Knows}
use Rattle.instance_query.proofs.tests.answered.Goals as goal

pub counted-requires-clause-known : goal.counted-requires-clause-known
counted-requires-clause-known g c f m = subst (λ (t : Theory). Knows t f) (sym c.in_ok-entailers.ensures)
    (c.knows_all.ensures c.if-not-knows_all.false f (subst (λ (fs : List Fact). Contains fs f) (sym (c.as_slice.ensures.value ∙ c.in_ok-all.ensures.all)) m))
