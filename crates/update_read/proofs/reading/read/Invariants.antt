use Rattle.std.proofs.Common.{length}
use Rattle.update_read.specs.Ahead.{IsPrefixless}
use Rattle.update_read.proofs.ParseLaws.{IsParsedTo}
use Rattle.update_read.proofs.reading.read.Given as goal

abbrev pub invariant-loop-rest : goal.invariant-loop-rest
invariant-loop-rest l = record { parsed : IsParsedTo l.ontology l.bytes l.progress l.line l.rest; prefixless : IsPrefixless l.rest l.known }

abbrev pub decreases-loop-rest : goal.decreases-loop-rest
decreases-loop-rest l = length l.rest
