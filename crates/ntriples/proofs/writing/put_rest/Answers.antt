use Rattle.std.proofs.Common.{ℕ, List, ◌++◌, ◌∷◌, Err, subst}
use Rattle.std.specs.Prelude.{codes}
use Rattle.dl_text.specs.Printing.{written}
use Rattle.ntriples.specs.Printing.{behind}
use Rattle.ntriples.specs.Writing.{IsPut}
use Rattle.ntriples.proofs.WritingLaws.{put_then, put_cut}
use Rattle.ntriples.proofs.writing.put_rest.Goals as goal

pub returns-in-Ok : goal.returns-in-Ok
returns-in-Ok g c =
    subst (λ (zs : List ℕ). IsPut (g.K.Sink.written c.args.sink.now) (g.K.Sink.written c.put_end.new.sink) (g.K.Sink.faults c.args.sink.now) (g.K.Sink.faults c.put_end.new.sink) (written zs ++ 34 ∷ (behind c.args.value.now ++ codes " .\n")) c.put_end.result) c.as_slice.ensures.value
    (put_then (g.K.Sink.written c.args.sink.now) (g.K.Sink.written c.put_text.new.sink) (g.K.Sink.written c.put_end.new.sink) (g.K.Sink.faults c.args.sink.now) (g.K.Sink.faults c.put_text.new.sink) (g.K.Sink.faults c.put_end.new.sink)
    (written c.as_slice.result.now) (34 ∷ (behind c.args.value.now ++ codes " .\n")) c.put_end.result c.in-Ok.ensures.0 c.in-Ok.ensures.1 c.put_end.ensures)

pub returns-in-Err : goal.returns-in-Err
returns-in-Err g c =
    subst (λ (zs : List ℕ). IsPut (g.K.Sink.written c.args.sink.now) (g.K.Sink.written c.put_text.new.sink) (g.K.Sink.faults c.args.sink.now) (g.K.Sink.faults c.put_text.new.sink) (written zs ++ 34 ∷ (behind c.args.value.now ++ codes " .\n")) (Err c.in-Err.fault)) c.as_slice.ensures.value
    (put_cut (g.K.Sink.written c.args.sink.now) (g.K.Sink.written c.put_text.new.sink) (g.K.Sink.faults c.args.sink.now) (g.K.Sink.faults c.put_text.new.sink) (written c.as_slice.result.now) (34 ∷ (behind c.args.value.now ++ codes " .\n")) c.in-Err.fault c.in-Err.ensures)
