use Rattle.std.proofs.Common.{◌<◌, length, ◌∙◌, sym, subst, arith}
use Rattle.std.proofs.lemmas.List.{drop_more}
use Rattle.std.proofs.lemmas.Bool.{false≢true}
use Rattle.dl_text.specs.Iris.{HasScheme}
use Rattle.dl_text.proofs.IriLaws.{has_more, has_less}
use Rattle.dl_text.proofs.iris.has_scheme.Goals as goal

pub returns-then-not-is_scheme_byte : goal.returns-then-not-is_scheme_byte
returns-then-not-is_scheme_byte c =
    let within : c.loop-b.b-index < length c.args.bytes.now = omega arith in (
      λ t. absurd (false≢true t),
      λ h. absurd (false≢true (sym (sym c.is_scheme_byte.ensures ∙ c.if-not-is_scheme_byte.true) ∙ (has_less _ _ c.if-b-eq58.false (subst HasScheme (drop_more c.args.bytes.now c.loop-b.b-index 0 within) (c.loop-b.invariant.0 h))).0)),
    )

pub loop-b-preserved : goal.loop-b-preserved
loop-b-preserved c =
    let within : c.loop-b.b-index < length c.args.bytes.now = omega arith in
    let now = drop_more c.args.bytes.now c.loop-b.b-index 0 within in (
      λ h. (has_less _ _ c.if-b-eq58.false (subst HasScheme now (c.loop-b.invariant.0 h))).1,
      λ h. c.loop-b.invariant.1 (subst HasScheme (sym now) (has_more _ _ (sym c.is_scheme_byte.ensures ∙ c.if-not-is_scheme_byte.false) h)),
    )
