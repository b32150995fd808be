use Rattle.std.proofs.Common.{List, sym, subst}
use Rattle.dl_base.specs.declared.statements.Fact.{Fact}
use Rattle.dl_base.specs.FactOrder.{AreSorted}
use Rattle.fact_delta.specs.Deltas.{IsOver, IsApplied, standing}
use Rattle.fact_delta.proofs.delta.Delta.with.Goals as goal

pub invariant_of-result : goal.invariant_of-result
invariant_of-result g c = subst (λ (b : List Fact). IsOver (record { base = b; came = c.in_ok-moved.moved.came.items; went = c.in_ok-moved.moved.went.items })) (sym c.requires.same) c.in_ok-moved.ensures.over

pub returns-clause-ok : goal.returns-clause-ok
returns-clause-ok g c =
    subst (λ (b : List Fact). IsApplied (standing c.args.self.now) c.args.removed.now c.args.added.now (standing (record { base = b; came = c.in_ok-moved.moved.came.items; went = c.in_ok-moved.moved.went.items }))) (sym c.requires.same) c.in_ok-moved.ensures.ok

pub returns-clause-sorted : goal.returns-clause-sorted
returns-clause-sorted g c =
    subst (λ (b : List Fact). AreSorted (standing (record { base = b; came = c.in_ok-moved.moved.came.items; went = c.in_ok-moved.moved.went.items }))) (sym c.requires.same) c.in_ok-moved.ensures.sorted
