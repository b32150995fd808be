use Rattle.std.proofs.Common.{length}
use Rattle.dl_text.proofs.EscapeLaws.{IsUndoneTo}
use Rattle.dl_text.proofs.escapes.undo.Given as goal

abbrev pub invariant-loop-front : goal.invariant-loop-front
invariant-loop-front l = IsUndoneTo l.rule l.bytes l.text.items l.rest

abbrev pub decreases-loop-front : goal.decreases-loop-front
decreases-loop-front l = length l.rest
