use Rattle.std.proofs.Common.{length}
use Rattle.ntriples.proofs.LineLaws.{IsParsedTo}
use Rattle.ntriples.proofs.lines.parse_line.Given as goal

abbrev pub invariant-loop-rest : goal.invariant-loop-rest
invariant-loop-rest l = IsParsedTo l.line l.progress l.rest

abbrev pub decreases-loop-rest : goal.decreases-loop-rest
decreases-loop-rest l = length l.rest
