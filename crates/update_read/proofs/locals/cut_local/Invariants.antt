use Rattle.std.proofs.Common.{length}
use Rattle.update_read.proofs.LocalLaws.{IsLocalTo}
use Rattle.update_read.proofs.locals.cut_local.Given as goal

abbrev pub invariant-loop-behind : goal.invariant-loop-behind
invariant-loop-behind l = IsLocalTo l.bytes l.end l.rest

abbrev pub decreases-loop-behind : goal.decreases-loop-behind
decreases-loop-behind l = length l.rest
