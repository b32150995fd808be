use Rattle.std.proofs.Common.{length}
use Rattle.ntriples.proofs.FileLaws.{IsReadTo}
use Rattle.ntriples.proofs.files.read_lines.Given as goal

abbrev pub invariant-loop-front : goal.invariant-loop-front
invariant-loop-front l = IsReadTo l.ontology l.bytes l.facts l.skipped l.line l.rest

abbrev pub decreases-loop-front : goal.decreases-loop-front
decreases-loop-front l = length l.rest
