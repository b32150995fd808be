use Rattle.std.proofs.Common.{subst, Err}
use Rattle.std.proofs.lemmas.Result.{err_from_is_err_and}
use Rattle.dl_text.specs.Literals.{SpellsText}
use Rattle.dl_text.proofs.LiteralLaws.{not_spelled}
use Rattle.dl_text.proofs.literals.canonical_value.Goals as goal

pub returns-in_err-text : goal.returns-in_err-text
returns-in_err-text c =
    let p = err_from_is_err_and c.from_residual.result c.from_residual.ensures.1 in
    rw (p.1, p.2) (not_spelled c.args.text.now c.args.datatype.now c.args.tag.now c.in_err-text.field-0.0
    (subst (λ d. SpellsText d c.args.text.now (Err c.in_err-text.field-0.0)) c.datatype_of-datatype.ensures c.in_err-text.ensures))
