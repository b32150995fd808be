use Rattle.std.proofs.Common.{length}
use Rattle.dl_runs.proofs.CharLaws.{IsRunTo}
use Rattle.dl_runs.proofs.runs.run.Given as goal

abbrev pub invariant-loop-behind : goal.invariant-loop-behind
invariant-loop-behind l = IsRunTo l.class l.bytes l.rest

abbrev pub decreases-loop-behind : goal.decreases-loop-behind
decreases-loop-behind l = length l.rest
