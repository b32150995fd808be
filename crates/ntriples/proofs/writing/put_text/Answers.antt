use Rattle.std.proofs.Common.{ℕ, List, ◌++◌, ◌∙◌, sym, subst, append_assoc}
use Rattle.dl_text.specs.Printing.{written}
use Rattle.ntriples.specs.Writing.{IsPut}
use Rattle.ntriples.proofs.WritingLaws.{put_more, put_rest, put_stopped}
use Rattle.ntriples.proofs.writing.put_text.Goals as goal

pub returns-in-Err : goal.returns-in-Err
returns-in-Err g c =
    put_stopped (g.K.Sink.written c.args.sink.now) (g.K.Sink.written c.loop-front.sink) (g.K.Sink.written c.put_pair.new.sink) (g.K.Sink.faults c.args.sink.now) (g.K.Sink.faults c.loop-front.sink) (g.K.Sink.faults c.put_pair.new.sink)
    (written c.args.text.now) (written c.loop-front.rest.now) (c.in-Some.front.now ++ c.in-Some.escape.now) (written c.in-Some.behind.now) c.in-Err.fault c.loop-front.invariant
    (c.in-Some.ensures.0 ∙ sym (append_assoc c.in-Some.front.now c.in-Some.escape.now (written c.in-Some.behind.now))) c.in-Err.ensures

pub loop-front-preserved : goal.loop-front-preserved
loop-front-preserved g c =
    put_more (g.K.Sink.written c.args.sink.now) (g.K.Sink.written c.loop-front.sink) (g.K.Sink.written c.put_pair.new.sink) (g.K.Sink.faults c.args.sink.now) (g.K.Sink.faults c.loop-front.sink) (g.K.Sink.faults c.put_pair.new.sink)
    (written c.args.text.now) (written c.loop-front.rest.now) (c.in-Some.front.now ++ c.in-Some.escape.now) (written c.in-Some.behind.now) c.in_default-put_pair.field-0 c.loop-front.invariant
    (c.in-Some.ensures.0 ∙ sym (append_assoc c.in-Some.front.now c.in-Some.escape.now (written c.in-Some.behind.now))) c.in_default-put_pair.ensures

pub returns : goal.returns
returns g c =
    put_rest (g.K.Sink.written c.args.sink.now) (g.K.Sink.written c.loop-front.sink) (g.K.Sink.written c.put.new.sink) (g.K.Sink.faults c.args.sink.now) (g.K.Sink.faults c.loop-front.sink) (g.K.Sink.faults c.put.new.sink)
    (written c.args.text.now) (written c.loop-front.rest.now) c.put.result c.loop-front.invariant
    (subst (λ (zs : List ℕ). IsPut (g.K.Sink.written c.loop-front.sink) (g.K.Sink.written c.put.new.sink) (g.K.Sink.faults c.loop-front.sink) (g.K.Sink.faults c.put.new.sink) zs c.put.result) (sym c.in_default.ensures) c.put.ensures)
