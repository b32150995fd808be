use Rattle.std.proofs.Common.{take}
use Rattle.instance_query.specs.Answering.{FollowsFromOne}
use Rattle.instance_query.proofs.answering.followers.Given as goal

abbrev pub invariant-loop-fact : goal.invariant-loop-fact
invariant-loop-fact l = FollowsFromOne l.entailers.axioms (take l.fact-index l.facts) l.entailed.items
