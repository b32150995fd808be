use Rattle.std.proofs.Common.{length}
use Rattle.dl_runs.proofs.DotLaws.{IsUndottedTo}
use Rattle.dl_runs.proofs.runs.run_undotted.Given as goal

abbrev pub invariant-loop-behind : goal.invariant-loop-behind
invariant-loop-behind l = IsUndottedTo l.class l.bytes l.end l.rest

abbrev pub decreases-loop-behind : goal.decreases-loop-behind
decreases-loop-behind l = length l.rest
