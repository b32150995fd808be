use Rattle.std.proofs.Common.{length}
use Rattle.update_read.proofs.TextLaws.{IsInside}
use Rattle.update_read.proofs.texts.cut_quoted.Given as goal

abbrev pub invariant-loop-rest : goal.invariant-loop-rest
invariant-loop-rest l = IsInside l.quote l.kind l.after l.here

abbrev pub decreases-loop-rest : goal.decreases-loop-rest
decreases-loop-rest l = length l.here
