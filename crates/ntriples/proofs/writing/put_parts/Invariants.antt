use Rattle.std.proofs.Common.{drop}
use Rattle.std.specs.List.{flat_map}
use Rattle.ntriples.proofs.WritingLaws.{IsPutTo}
use Rattle.ntriples.proofs.writing.put_parts.Given as goal

abbrev pub invariant-loop-part : goal.invariant-loop-part
invariant-loop-part g l =
    IsPutTo (g.K.Sink.written l.fn.sink) (g.K.Sink.written l.sink) (g.K.Sink.faults l.fn.sink) (g.K.Sink.faults l.sink) (flat_map (λ part. part.now) l.parts) (flat_map (λ part. part.now) (drop l.part-index l.parts))
