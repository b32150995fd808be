use Rattle.std.proofs.Common.{◌≤◌, ◌*◌, length}
use Rattle.dl_base.specs.Picks.{Collects}
use Rattle.update_engine.specs.Stepping.{FollowsFrom}
use Rattle.update_engine.proofs.picking.followers.Given as goal

abbrev pub invariant-loop-fact : goal.invariant-loop-fact
invariant-loop-fact l = record {
  follows : Collects (FollowsFrom l.rules.axioms l.removed) l.fact-index l.facts.items;
  few : length l.facts.items ≤ 2 * length l.rules.terms * l.fact-index;
}
