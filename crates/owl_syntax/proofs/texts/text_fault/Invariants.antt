use Rattle.std.proofs.Common.{length}
use Rattle.owl_syntax.proofs.QuoteLaws.{IsMeasured}
use Rattle.owl_syntax.proofs.texts.text_fault.Given as goal

abbrev pub invariant-loop-front : goal.invariant-loop-front
invariant-loop-front l = IsMeasured l.inner l.rest l.length

abbrev pub decreases-loop-front : goal.decreases-loop-front
decreases-loop-front l = length l.rest
