use Rattle.std.proofs.Common.{ℕ, List, [], ◌++◌, ◌∷◌, Err, subst}
use Rattle.std.specs.Prelude.{codes}
use Rattle.dl_text.specs.Printing.{written}
use Rattle.ntriples.specs.Printing.{behind}
use Rattle.ntriples.specs.Writing.{IsPut}
use Rattle.ntriples.proofs.LineParts.{value_parts}
use Rattle.ntriples.proofs.WritingLaws.{put_then, put_cut}
use Rattle.ntriples.proofs.writing.put_value.Goals as goal

pub returns-in-Ok : goal.returns-in-Ok
returns-in-Ok g c =
    subst (λ (zs : List ℕ). IsPut (g.K.Sink.written c.args.sink.now) (g.K.Sink.written c.put_rest.new.sink) (g.K.Sink.faults c.args.sink.now) (g.K.Sink.faults c.put_rest.new.sink) zs c.put_rest.result) (value_parts c.args.subject.now c.args.predicate.now c.args.value.now)
    (put_then (g.K.Sink.written c.args.sink.now) (g.K.Sink.written c.put_parts.new.sink) (g.K.Sink.written c.put_rest.new.sink) (g.K.Sink.faults c.args.sink.now) (g.K.Sink.faults c.put_parts.new.sink) (g.K.Sink.faults c.put_rest.new.sink)
    (codes "<" ++ (c.args.subject.now ++ (codes "> <" ++ (c.args.predicate.now ++ (codes "> \"" ++ []))))) (written c.args.value.now.text ++ 34 ∷ (behind c.args.value.now ++ codes " .\n")) c.put_rest.result c.in-Ok.ensures.0 c.in-Ok.ensures.1 c.put_rest.ensures)

pub returns-in-Err : goal.returns-in-Err
returns-in-Err g c =
    subst (λ (zs : List ℕ). IsPut (g.K.Sink.written c.args.sink.now) (g.K.Sink.written c.put_parts.new.sink) (g.K.Sink.faults c.args.sink.now) (g.K.Sink.faults c.put_parts.new.sink) zs (Err c.in-Err.fault)) (value_parts c.args.subject.now c.args.predicate.now c.args.value.now)
    (put_cut (g.K.Sink.written c.args.sink.now) (g.K.Sink.written c.put_parts.new.sink) (g.K.Sink.faults c.args.sink.now) (g.K.Sink.faults c.put_parts.new.sink) (codes "<" ++ (c.args.subject.now ++ (codes "> <" ++ (c.args.predicate.now ++ (codes "> \"" ++ []))))) (written c.args.value.now.text ++ 34 ∷ (behind c.args.value.now ++ codes " .\n")) c.in-Err.fault c.in-Err.ensures)
