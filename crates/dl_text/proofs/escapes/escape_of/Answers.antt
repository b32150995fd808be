use Rattle.std.proofs.Common.{◌∷◌, sym, ap, ◌∙◌, Some, refl}
use Rattle.dl_text.specs.Escapes.{backslash, short, coded}
use Rattle.dl_text.proofs.EscapeLaws.{short_character}
use Rattle.dl_text.proofs.escapes.escape_of.Goals as goal

pub returns-in-Some-short_of : goal.returns-in-Some-short_of
returns-in-Some-short_of c =
    let is = sym c.short_of.ensures ∙ c.in-Some-short_of.is in
    short c.in-Some.mark.now c.in-Some-short_of.b is (ap (λ zs. backslash ∷ zs) c.in-Some.ensures.cases.0) (short_character c.args.rule c.in-Some.mark.now c.in-Some-short_of.b is)

pub returns-in-Some-named_by : goal.returns-in-Some-named_by
returns-in-Some-named_by c =
    let is = sym c.width_of.ensures ∙ c.in-Some-width_of.is in
    coded c.in-Some.mark.now c.in-Some-named_by.c c.split_at.result.0.now (is ∙ ap (λ n. Some n) (sym c.split_at.ensures.front_len)) c.in-Some-named_by.ensures
    (ap (λ zs. backslash ∷ zs) (c.in-Some.ensures.cases.0 ∙ ap (λ zs. c.in-Some.mark.now ∷ zs) c.split_at.ensures.by_index.0)) refl
