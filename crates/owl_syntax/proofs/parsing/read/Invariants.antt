use Rattle.std.proofs.Common.{length}
use Rattle.owl_syntax.proofs.ParseLaws.{IsParsedTo}
use Rattle.owl_syntax.proofs.parsing.read.Given as goal

abbrev pub invariant-loop-first : goal.invariant-loop-first
invariant-loop-first l = IsParsedTo l.bytes l.progress l.line l.rest

abbrev pub decreases-loop-first : goal.decreases-loop-first
decreases-loop-first l = length l.rest
