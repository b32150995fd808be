use Rattle.std.proofs.Common.{subst}
use Rattle.dl_text.specs.Outcomes.{NamesIri}
use Rattle.dl_text.proofs.ReadingLaws.{iri_text, iri_named, iri_given, iri_undone, iri_not_undone}
use Rattle.dl_text.proofs.reading.read_iri.Goals as goal

pub returns-then-is_iri : goal.returns-then-is_iri
returns-then-is_iri c =
    let is = c.is_iri.ensures.0 c.if-is_iri.true in
    iri_named c.args.escapes c.args.bytes.now c.args.bytes.now c.name_of.result (iri_text c.args.escapes c.args.bytes.now is) is c.name_of.ensures

pub returns-in-Err : goal.returns-in-Err
returns-in-Err c = iri_not_undone c.args.escapes c.args.bytes.now c.in-Err.fault c.if-not-escapes.false c.in-Err.ensures

pub returns : goal.returns
returns c =
    iri_given c.args.escapes c.args.bytes.now c.in-Ok.text.items c.iri_name.result
    (iri_undone c.args.escapes c.args.bytes.now c.in-Ok.text.items c.if-not-escapes.false c.in-Ok.ensures)
    (subst (λ text. NamesIri text c.iri_name.result) c.as_slice.ensures.value c.iri_name.ensures)
