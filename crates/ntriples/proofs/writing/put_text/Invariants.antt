use Rattle.std.proofs.Common.{length}
use Rattle.dl_text.specs.Printing.{written}
use Rattle.ntriples.proofs.WritingLaws.{IsPutTo}
use Rattle.ntriples.proofs.writing.put_text.Given as goal

abbrev pub invariant-loop-front : goal.invariant-loop-front
invariant-loop-front g l = IsPutTo (g.K.Sink.written l.fn.sink) (g.K.Sink.written l.sink) (g.K.Sink.faults l.fn.sink) (g.K.Sink.faults l.sink) (written l.text) (written l.rest)

abbrev pub decreases-loop-front : goal.decreases-loop-front
decreases-loop-front g l = length l.rest
