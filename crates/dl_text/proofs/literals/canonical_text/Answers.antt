use Rattle.std.proofs.Common.{sym, ◌∙◌}
use Rattle.std.proofs.lemmas.Slice.Eq.{bytes_eq-Decides}
use Rattle.dl_text.proofs.LiteralLaws.{integer_spelled, truth_spelled}
use Rattle.dl_text.proofs.literals.canonical_text.Goals as goal

pub returns-then-eq : goal.returns-then-eq
returns-then-eq c =
    let same = (bytes_eq-Decides c.args.datatype.now c.xsd_integer.result.now).0 (sym c.eq.ensures ∙ c.if-eq.true) in
    integer_spelled c.args.datatype.now c.args.text.now c.integer_name.result (same ∙ c.xsd_integer.ensures) c.integer_name.ensures

pub returns-then-eq-2 : goal.returns-then-eq-2
returns-then-eq-2 c =
    let same = (bytes_eq-Decides c.args.datatype.now c.xsd_boolean.result.now).0 (sym c.eq-2.ensures ∙ c.if-eq-2.true) in
    truth_spelled c.args.datatype.now c.args.text.now c.truth_name.result (same ∙ c.xsd_boolean.ensures) c.truth_name.ensures
