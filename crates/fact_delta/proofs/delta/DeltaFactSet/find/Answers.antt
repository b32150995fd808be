use Rattle.std.proofs.Common.{subst}
use Rattle.std.specs.Prelude.{Contains}
use Rattle.dl_base.specs.declared.statements.Fact.{Fact}
use Rattle.dl_base.specs.FactOrder.{AreSorted}
use Rattle.dl_base.specs.Patterns.{Matches}
use Rattle.dl_base.specs.Updates.{Lists}
use Rattle.fact_delta.specs.Deltas.{Over, standing}
use Rattle.fact_delta.proofs.FindLaws.{found_is}
use Rattle.fact_delta.proofs.StandingLaws.{standing_sorted}
use Rattle.fact_delta.proofs.delta.DeltaFactSet.find.Goals as goal

pub returns-in_err-held-clause-sorted : goal.returns-in_err-held-clause-sorted
returns-in_err-held-clause-sorted g c =
    let w = c.self.inside in
    let d : Over = record { base = g.S.FactSet.facts w.base; came = w.came.items; went = w.went.items } in
    subst (λ (o : Over). AreSorted (standing o)) c.self.view_is (standing_sorted d c.self.invariant)

pub returns-in_err-found-clause-sorted : goal.returns-in_err-found-clause-sorted
returns-in_err-found-clause-sorted g c =
    let w = c.self.inside in
    let d : Over = record { base = g.S.FactSet.facts w.base; came = w.came.items; went = w.went.items } in
    subst (λ (o : Over). AreSorted (standing o)) c.self.view_is (standing_sorted d c.self.invariant)

pub returns-in_err-matching-clause-sorted : goal.returns-in_err-matching-clause-sorted
returns-in_err-matching-clause-sorted g c =
    let w = c.self.inside in
    let d : Over = record { base = g.S.FactSet.facts w.base; came = w.came.items; went = w.went.items } in
    subst (λ (o : Over). AreSorted (standing o)) c.self.view_is (standing_sorted d c.self.invariant)

pub returns-in_err-append-clause-sorted : goal.returns-in_err-append-clause-sorted
returns-in_err-append-clause-sorted g c =
    let w = c.self.inside in
    let d : Over = record { base = g.S.FactSet.facts w.base; came = w.came.items; went = w.went.items } in
    subst (λ (o : Over). AreSorted (standing o)) c.self.view_is (standing_sorted d c.self.invariant)

pub returns-in_err-found-2-clause-sorted : goal.returns-in_err-found-2-clause-sorted
returns-in_err-found-2-clause-sorted g c =
    let w = c.self.inside in
    let d : Over = record { base = g.S.FactSet.facts w.base; came = w.came.items; went = w.went.items } in
    subst (λ (o : Over). AreSorted (standing o)) c.self.view_is (standing_sorted d c.self.invariant)

pub returns-clause-sorted : goal.returns-clause-sorted
returns-clause-sorted g c =
    let w = c.self.inside in
    let d : Over = record { base = g.S.FactSet.facts w.base; came = w.came.items; went = w.went.items } in
    subst (λ (o : Over). AreSorted (standing o)) c.self.view_is (standing_sorted d c.self.invariant)

pub returns-clause-found : goal.returns-clause-found
returns-clause-found g c =
    let w = c.self.inside in
    let d : Over = record { base = g.S.FactSet.facts w.base; came = w.came.items; went = w.went.items } in
    let p = c.args.pattern.now in
    let found = c.in_ok-found-2.found.items in
    subst (λ (o : Over). Lists (λ (f : Fact). Contains (standing o) f × Matches p f) found) c.self.view_is
    (found_is d c.self.invariant p c.in_ok-held.held.items c.in_ok-found.found.items c.in_ok-matching.field-0.items c.append.new.self.items found
    c.as_slice.result.now c.as_slice-2.result.now c.as_slice-3.result.now c.in_ok-held.ensures c.as_slice.ensures.value c.as_slice-2.ensures.value c.as_slice-3.ensures.value
    c.in_ok-found.ensures c.in_ok-matching.ensures c.in_ok-append.ensures.items c.in_ok-found-2.ensures.same c.in_ok-found-2.ensures.sorted)
