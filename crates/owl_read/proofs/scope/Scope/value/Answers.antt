use Rattle.std.proofs.Common.{◌∙◌, subst, sym}
use Rattle.dl_text.specs.declared.refusals.ReadRefusal.{ReadRefusal}
use Rattle.owl_read.specs.Literals.{value_of}
use Rattle.owl_read.specs.Outcomes.{Fails}
use Rattle.owl_read.proofs.LiteralLaws.{value_found, value_missing}
use Rattle.owl_read.proofs.scope.Scope.value.Goals as goal

pub returns-in-Ok : goal.returns-in-Ok
returns-in-Ok c =
    value_found c.args.self.now c.args.line c.args.raw.now c.as_slice.result.now c.args.datatype.now c.args.tag.now
    (c.as_slice.ensures.value ∙ c.in_ok-text.ensures) c.in-Ok.value c.in-Ok.ensures

pub returns : goal.returns
returns c =
    subst (λ (e : ReadRefusal). Fails e (value_of c.args.self.now c.args.line c.args.raw.now c.args.datatype.now c.args.tag.now)) (sym c.refusal_at.ensures)
    (value_missing c.args.self.now c.args.line c.args.raw.now c.as_slice.result.now c.args.datatype.now c.args.tag.now
    (c.as_slice.ensures.value ∙ c.in_ok-text.ensures) c.in-Err.fault c.in-Err.ensures)
