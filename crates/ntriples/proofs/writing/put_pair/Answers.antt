use Rattle.ntriples.proofs.WritingLaws.{put_then, put_cut}
use Rattle.ntriples.proofs.writing.put_pair.Goals as goal

pub returns-in-Ok : goal.returns-in-Ok
returns-in-Ok g c =
    put_then (g.K.Sink.written c.args.sink.now) (g.K.Sink.written c.put.new.sink) (g.K.Sink.written c.put-in-Ok.new.sink) (g.K.Sink.faults c.args.sink.now) (g.K.Sink.faults c.put.new.sink) (g.K.Sink.faults c.put-in-Ok.new.sink)
    c.args.first.now c.args.second.now c.put-in-Ok.result c.in-Ok.ensures.0 c.in-Ok.ensures.1 c.put-in-Ok.ensures

pub returns-in-Err : goal.returns-in-Err
returns-in-Err g c =
    put_cut (g.K.Sink.written c.args.sink.now) (g.K.Sink.written c.put.new.sink) (g.K.Sink.faults c.args.sink.now) (g.K.Sink.faults c.put.new.sink) c.args.first.now c.args.second.now c.in-Err.fault c.in-Err.ensures
