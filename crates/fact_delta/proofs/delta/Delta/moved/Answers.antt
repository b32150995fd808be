use Rattle.std.proofs.Common.{List, subst}
use Rattle.dl_base.specs.declared.statements.Fact.{Fact}
use Rattle.dl_base.specs.Updates.{Lists}
use Rattle.fact_delta.specs.Deltas.{IsOver, IsExchanged}
use Rattle.fact_delta.proofs.ChangeLaws.{next_is, applied}
use Rattle.fact_delta.proofs.StandingLaws.{standing_sorted}
use Rattle.fact_delta.proofs.delta.Delta.moved.Goals as goal

pub returns-clause-over : goal.returns-clause-over
returns-clause-over g c =
    let d = c.args.self.now in
    let is : IsOver d = subst IsOver c.self.view_is c.self.invariant in
    let came = c.in_ok-came.came.items in
    let went = c.in_ok-went.went.items in
    let new_came_on = subst (λ (fs : List Fact). Lists (IsExchanged fs c.args.removed.now c.args.added.now c.went.result.now) came) c.came.ensures.same c.in_ok-came.ensures in
    let new_came = subst (λ (fs : List Fact). Lists (IsExchanged d.came c.args.removed.now c.args.added.now fs) came) c.went.ensures.same new_came_on in
    let new_went_on = subst (λ (fs : List Fact). Lists (IsExchanged fs c.args.added.now c.args.removed.now c.came-2.result.now) went) c.went-2.ensures.same c.in_ok-went.ensures in
    let new_went = subst (λ (fs : List Fact). Lists (IsExchanged d.went c.args.added.now c.args.removed.now fs) went) c.came-2.ensures.same new_went_on in
    next_is d is c.args.removed.now c.args.added.now came went c.requires.fits new_came new_went

pub returns-clause-ok : goal.returns-clause-ok
returns-clause-ok g c =
    let d = c.args.self.now in
    let is : IsOver d = subst IsOver c.self.view_is c.self.invariant in
    let came = c.in_ok-came.came.items in
    let went = c.in_ok-went.went.items in
    let new_came_on = subst (λ (fs : List Fact). Lists (IsExchanged fs c.args.removed.now c.args.added.now c.went.result.now) came) c.came.ensures.same c.in_ok-came.ensures in
    let new_came = subst (λ (fs : List Fact). Lists (IsExchanged d.came c.args.removed.now c.args.added.now fs) came) c.went.ensures.same new_came_on in
    let new_went_on = subst (λ (fs : List Fact). Lists (IsExchanged fs c.args.added.now c.args.removed.now c.came-2.result.now) went) c.went-2.ensures.same c.in_ok-went.ensures in
    let new_went = subst (λ (fs : List Fact). Lists (IsExchanged d.went c.args.added.now c.args.removed.now fs) went) c.came-2.ensures.same new_went_on in
    applied d is c.args.removed.now c.args.added.now came went c.requires.fits new_came new_went

pub returns-clause-sorted : goal.returns-clause-sorted
returns-clause-sorted g c =
    let d = c.args.self.now in
    let is : IsOver d = subst IsOver c.self.view_is c.self.invariant in
    let came = c.in_ok-came.came.items in
    let went = c.in_ok-went.went.items in
    let new_came_on = subst (λ (fs : List Fact). Lists (IsExchanged fs c.args.removed.now c.args.added.now c.went.result.now) came) c.came.ensures.same c.in_ok-came.ensures in
    let new_came = subst (λ (fs : List Fact). Lists (IsExchanged d.came c.args.removed.now c.args.added.now fs) came) c.went.ensures.same new_came_on in
    let new_went_on = subst (λ (fs : List Fact). Lists (IsExchanged fs c.args.added.now c.args.removed.now c.came-2.result.now) went) c.went-2.ensures.same c.in_ok-went.ensures in
    let new_went = subst (λ (fs : List Fact). Lists (IsExchanged d.went c.args.added.now c.args.removed.now fs) went) c.came-2.ensures.same new_went_on in
    standing_sorted (record { base = d.base; came = came; went = went }) (next_is d is c.args.removed.now c.args.added.now came went c.requires.fits new_came new_went)
