use Rattle.std.proofs.Common.{◌+◌, drop}
use Rattle.std.specs.List.{flat_map}
use Rattle.std.proofs.lemmas.List.{at_drop_more}
use Rattle.ntriples.proofs.WritingLaws.{put_more, put_stopped}
use Rattle.ntriples.proofs.writing.put_parts.Goals as goal

pub returns-in-Err : goal.returns-in-Err
returns-in-Err g c =
    put_stopped (g.K.Sink.written c.args.sink.now) (g.K.Sink.written c.loop-part.sink) (g.K.Sink.written c.put.new.sink) (g.K.Sink.faults c.args.sink.now) (g.K.Sink.faults c.loop-part.sink) (g.K.Sink.faults c.put.new.sink)
    (flat_map (λ part. part.now) c.args.parts.now) (flat_map (λ part. part.now) (drop c.loop-part.part-index c.args.parts.now)) _ (flat_map (λ part. part.now) (drop (c.loop-part.part-index + 1) c.args.parts.now)) c.in-Err.fault
    c.loop-part.invariant (at_drop_more (flat_map (λ part. part.now)) c.args.parts.now c.loop-part.part-index _ c.loop-part-test.true) c.in-Err.ensures

pub loop-part-preserved : goal.loop-part-preserved
loop-part-preserved g c =
    put_more (g.K.Sink.written c.args.sink.now) (g.K.Sink.written c.loop-part.sink) (g.K.Sink.written c.put.new.sink) (g.K.Sink.faults c.args.sink.now) (g.K.Sink.faults c.loop-part.sink) (g.K.Sink.faults c.put.new.sink)
    (flat_map (λ part. part.now) c.args.parts.now) (flat_map (λ part. part.now) (drop c.loop-part.part-index c.args.parts.now)) _ (flat_map (λ part. part.now) (drop (c.loop-part.part-index + 1) c.args.parts.now)) c.in_default.field-0
    c.loop-part.invariant (at_drop_more (flat_map (λ part. part.now)) c.args.parts.now c.loop-part.part-index _ c.loop-part-test.true) c.in_default.ensures
