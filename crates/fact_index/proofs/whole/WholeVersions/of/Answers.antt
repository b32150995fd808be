use Rattle.std.proofs.Common.{List, ◌∙◌, refl, sym, subst, ◌<◌, ◌^◌, length, arith}
use Rattle.std.specs.Prelude.{◌↔◌, Contains}
use Rattle.dl_base.specs.FactOrder.{AreSorted}
use Rattle.dl_base.specs.declared.statements.Fact.{Fact}
use Rattle.fact_index.proofs.WholeLaws.{stands_alone, alone_kept}
use Rattle.fact_index.proofs.whole.WholeVersions.of.Goals as goal

pub invariant_of-result : goal.invariant_of-result
invariant_of-result c =
    let room : length c.in_ok-base.base < 2 ^ 64 = omega (arith, c.len-count.ensures) in
    alone_kept c.over.result _ c.in_ok-base.base c.in_ok-new.ensures.ok c.over.ensures.base c.over.ensures.nothing c.in_ok-base.ensures.sorted room

pub returns-clause-same : goal.returns-clause-same
returns-clause-same c = λ f. subst (λ (fs : List Fact). Contains fs f ↔ Contains c.args.facts.items f) (sym (stands_alone c.over.result _ c.in_ok-base.base c.in_ok-new.ensures.ok c.over.ensures.base c.over.ensures.nothing)) (rw c.as_slice.ensures.value at (c.in_ok-base.ensures.same f))

pub returns-clause-sorted : goal.returns-clause-sorted
returns-clause-sorted c = subst AreSorted (sym (stands_alone c.over.result _ c.in_ok-base.base c.in_ok-new.ensures.ok c.over.ensures.base c.over.ensures.nothing)) c.in_ok-base.ensures.sorted
