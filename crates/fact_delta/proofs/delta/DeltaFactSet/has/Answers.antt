use Rattle.std.proofs.Common.{IsTrue, true, false, refl, subst}
use Rattle.std.specs.Prelude.{◌↔◌, Contains}
use Rattle.std.proofs.lemmas.Bool.{false≢true}
use Rattle.dl_base.specs.FactOrder.{AreSorted}
use Rattle.fact_delta.specs.Deltas.{Over, standing}
use Rattle.fact_delta.proofs.FindLaws.{has_came, has_gone, has_held}
use Rattle.fact_delta.proofs.StandingLaws.{standing_sorted}
use Rattle.fact_delta.proofs.delta.DeltaFactSet.has.Goals as goal

pub returns-then-is_in_order-clause-member : goal.returns-then-is_in_order-clause-member
returns-then-is_in_order-clause-member g c =
    let w = c.self.inside in
    let d : Over = record { base = g.S.FactSet.facts w.base; came = w.came.items; went = w.went.items } in
    subst (λ (o : Over). IsTrue true ↔ Contains (standing o) c.args.fact.now) c.self.view_is
    (has_came d c.self.invariant c.args.fact.now c.as_slice.result.now c.as_slice.ensures.value (c.if-is_in_order.ensures.0 refl))

pub returns-then-is_in_order-clause-sorted : goal.returns-then-is_in_order-clause-sorted
returns-then-is_in_order-clause-sorted g c =
    let w = c.self.inside in
    let d : Over = record { base = g.S.FactSet.facts w.base; came = w.came.items; went = w.went.items } in
    subst (λ (o : Over). AreSorted (standing o)) c.self.view_is (standing_sorted d c.self.invariant)

pub returns-then-is_in_order-2-clause-member : goal.returns-then-is_in_order-2-clause-member
returns-then-is_in_order-2-clause-member g c =
    let w = c.self.inside in
    let d : Over = record { base = g.S.FactSet.facts w.base; came = w.came.items; went = w.went.items } in
    subst (λ (o : Over). IsTrue false ↔ Contains (standing o) c.args.fact.now) c.self.view_is
    (has_gone d c.self.invariant c.args.fact.now c.as_slice.result.now c.as_slice-2.result.now c.as_slice.ensures.value c.as_slice-2.ensures.value
    (λ m. false≢true (c.if-is_in_order.ensures.1 m)) (c.if-is_in_order-2.ensures.0 refl))

pub returns-then-is_in_order-2-clause-sorted : goal.returns-then-is_in_order-2-clause-sorted
returns-then-is_in_order-2-clause-sorted g c =
    let w = c.self.inside in
    let d : Over = record { base = g.S.FactSet.facts w.base; came = w.came.items; went = w.went.items } in
    subst (λ (o : Over). AreSorted (standing o)) c.self.view_is (standing_sorted d c.self.invariant)

pub returns-clause-member : goal.returns-clause-member
returns-clause-member g c =
    let w = c.self.inside in
    let d : Over = record { base = g.S.FactSet.facts w.base; came = w.came.items; went = w.went.items } in
    subst (λ (o : Over). IsTrue c.is_in.result ↔ Contains (standing o) c.args.fact.now) c.self.view_is
    (has_held d c.self.invariant c.args.fact.now c.as_slice.result.now c.as_slice-2.result.now c.as_slice.ensures.value c.as_slice-2.ensures.value
    (λ m. false≢true (c.if-is_in_order.ensures.1 m)) (λ m. false≢true (c.if-is_in_order-2.ensures.1 m)) c.is_in.result c.is_in.ensures)

pub returns-clause-sorted : goal.returns-clause-sorted
returns-clause-sorted g c =
    let w = c.self.inside in
    let d : Over = record { base = g.S.FactSet.facts w.base; came = w.came.items; went = w.went.items } in
    subst (λ (o : Over). AreSorted (standing o)) c.self.view_is (standing_sorted d c.self.invariant)
