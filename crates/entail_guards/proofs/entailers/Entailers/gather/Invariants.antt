use Rattle.std.proofs.Common.{◌≤◌, ◌*◌, length}
use Rattle.dl_base.specs.Picks.{Collects}
use Rattle.entail_guards.specs.Following.{FollowsAt}
use Rattle.entail_guards.proofs.entailers.Entailers.gather.Given as goal

abbrev pub invariant-loop-number : goal.invariant-loop-number
invariant-loop-number l = record {
  found : Collects (FollowsAt l.self.axioms l.given) l.number l.facts.items;
  few : length l.facts.items ≤ 2 * l.number;
}
