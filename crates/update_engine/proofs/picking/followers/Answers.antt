use Rattle.std.proofs.Common.{◌≡◌, ℕ, ◌<◌, ◌≤◌, ◌*◌, length, sym, subst, arith}
use Rattle.dl_base.specs.Picks.{Collects}
use Rattle.update_engine.specs.Stepping.{FollowsFrom}
use Rattle.update_engine.proofs.BoundLaws.{follow_few}
use Rattle.update_engine.proofs.StepLaws.{follow_step}
use Rattle.update_engine.proofs.picking.followers.Goals as goal

pub follows-requires : goal.follows-requires
follows-requires c =
    let within : c.loop-fact.fact-index < length c.args.removed.now = omega arith in
    c.requires c.fact-item.result (c.loop-fact.fact-index, within, sym c.fact-item.is)

pub loop-fact-preserved : goal.loop-fact-preserved
loop-fact-preserved c =
    let within : c.loop-fact.fact-index < length c.args.removed.now = omega arith in
    record {
      follows = rw c.in_ok-append.ensures.items
          (follow_step c.args.rules.now.axioms c.args.removed.now c.loop-fact.fact-index c.fact-item.result c.loop-fact.facts.items _ within c.fact-item.is c.loop-fact.invariant.follows c.in_ok-follows.ensures.ok);
      few = rw c.in_ok-append.ensures.items
          (follow_few (length c.args.rules.now.terms) c.loop-fact.fact-index c.loop-fact.facts.items _ c.loop-fact.invariant.few c.in_ok-follows.ensures.few);
    }

pub returns-clause-follows : goal.returns-clause-follows
returns-clause-follows c =
    let all : c.loop-fact.fact-index ≡ length c.args.removed.now = omega arith in
    subst (λ (n : ℕ). Collects (FollowsFrom c.args.rules.now.axioms c.args.removed.now) n c.loop-fact.facts.items) all c.loop-fact.invariant.follows

pub returns-clause-few : goal.returns-clause-few
returns-clause-few c =
    let all : c.loop-fact.fact-index ≡ length c.args.removed.now = omega arith in
    subst (λ (n : ℕ). length c.loop-fact.facts.items ≤ 2 * length c.args.rules.now.terms * n) all c.loop-fact.invariant.few
