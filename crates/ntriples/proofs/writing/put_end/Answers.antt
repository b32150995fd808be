use Rattle.std.proofs.Common.{nat_eq, List, ℕ, sym, ap, subst, ◌∙◌}
use Rattle.std.specs.Cmp.Lexicographic.{pointwise}
use Rattle.ntriples.specs.Writing.{IsPut}
use Rattle.ntriples.proofs.LineParts.{typed_end_as}
use Rattle.ntriples.proofs.writing.put_end.Goals as goal

pub returns-else-eq : goal.returns-else-eq
returns-else-eq g c =
    subst (λ (zs : List ℕ). IsPut (g.K.Sink.written c.args.sink.now) (g.K.Sink.written c.put_parts.new.sink) (g.K.Sink.faults c.args.sink.now) (g.K.Sink.faults c.put_parts.new.sink) zs c.put_parts.result)
    (typed_end_as c.args.value.now c.as_slice-tag.result.now c.as_slice-datatype.result.now c.as_slice-tag.ensures.value c.as_slice-datatype.ensures.value (sym c.is_empty.ensures ∙ c.if-is_empty.true) (sym (c.eq.ensures ∙ ap (λ (zs : List ℕ). pointwise nat_eq c.as_slice-datatype.result.now zs) c.xsd_string.ensures) ∙ c.if-eq.false)) c.put_parts.ensures
