use Rattle.std.proofs.Common.{◌≡◌, length, arith, subst}
use Rattle.dl_base.specs.Picks.{Collects}
use Rattle.entail_guards.specs.Following.{FollowsAt}
use Rattle.entail_guards.proofs.FollowLaws.{collects_gains}
use Rattle.entail_guards.proofs.entailers.Entailers.gather.Goals as goal

pub loop-number-preserved : goal.loop-number-preserved
loop-number-preserved c = record {
  found = collects_gains (FollowsAt c.args.self.now.axioms c.args.given.now) c.loop-number.number c.loop-number.facts.items c.add_term.new.facts.items c.loop-number.invariant.found c.in_ok-add_term.ensures.gains;
  few = omega (arith, c.loop-number.invariant.few, c.in_ok-add_term.ensures.few);
}

pub returns-clause-known : goal.returns-clause-known
returns-clause-known c = c.terms-number-end.ensures.sound.known

pub returns-clause-found : goal.returns-clause-found
returns-clause-found c = let all : c.loop-number.number ≡ length c.args.self.now.terms = omega (arith, c.terms-number-end.ensures.count) in subst (λ (n : _). Collects (FollowsAt c.args.self.now.axioms c.args.given.now) n c.loop-number.facts.items) all c.loop-number.invariant.found
