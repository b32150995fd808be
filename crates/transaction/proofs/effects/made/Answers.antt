use Rattle.std.proofs.Common.{List, subst}
use Rattle.std.specs.Prelude.{Contains}
use Rattle.dl_base.specs.declared.statements.Fact.{Fact}
use Rattle.dl_base.specs.Updates.{Lists}
use Rattle.fact_delta.specs.Deltas.{IsApplied, standing, moved_over}
use Rattle.transaction.specs.Effects.{IsReplaced}
use Rattle.transaction.proofs.effects.made.Goals as goal

pub returns : goal.returns
returns g c =
    let step = c.args.step in
    let after = standing (moved_over c.args.stored.now c.in_ok-moved.moved) in
    let put = c.in_ok-put.put.items in
    let taken = c.in_ok-taken.taken.items in
    let put_1 = subst (λ (fs : List Fact). Lists (IsReplaced c.args.put.now (Contains fs) (Contains c.as_slice-2.result.now)) put) c.as_slice.ensures.value c.in_ok-put.ensures in
    let taken_1 = subst (λ (fs : List Fact). Lists (IsReplaced c.args.taken.now (Contains fs) (Contains c.as_slice-4.result.now)) taken) c.as_slice-3.ensures.value c.in_ok-taken.ensures in
    let applied = subst (λ (fs : List Fact). IsApplied (standing c.args.stored.now) fs c.as_slice-6.result.now after) c.as_slice-5.ensures.value c.in_ok-moved.ensures.ok in
    record {
      over = c.in_ok-moved.ensures.over;
      applied = subst (λ (fs : List Fact). IsApplied (standing c.args.stored.now) step.removed.items fs after) c.as_slice-6.ensures.value applied;
      put_now = subst (λ (fs : List Fact). Lists (IsReplaced c.args.put.now (Contains step.removed.items) (Contains fs)) put) c.as_slice-2.ensures.value put_1;
      taken_now = subst (λ (fs : List Fact). Lists (IsReplaced c.args.taken.now (Contains step.put.items) (Contains fs)) taken) c.as_slice-4.ensures.value taken_1;
      lost = c.lost_of.ensures;
    }
