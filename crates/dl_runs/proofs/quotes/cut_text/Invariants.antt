use Rattle.std.proofs.Common.{length}
use Rattle.dl_runs.proofs.TextLaws.{IsInside}
use Rattle.dl_runs.proofs.quotes.cut_text.Given as goal

abbrev pub invariant-loop-front : goal.invariant-loop-front
invariant-loop-front l = IsInside l.after l.here

abbrev pub decreases-loop-front : goal.decreases-loop-front
decreases-loop-front l = length l.here
