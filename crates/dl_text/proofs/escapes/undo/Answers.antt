use Rattle.std.proofs.Common.{◌∷◌, [], List, ◌++◌, ℕ, sym, ap, ◌∙◌, subst}
use Rattle.std.proofs.lemmas.List.{append-nil}
use Rattle.std.specs.Char.{encode_utf8}
use Rattle.dl_text.specs.Escapes.{backslash, Undoes}
use Rattle.dl_text.proofs.EscapeLaws.{IsUndoneTo, undone_none, undone_run, undone_more, undone_all, undone_never}
use Rattle.dl_text.proofs.escapes.undo.Goals as goal

pub loop-front-init : goal.loop-front-init
loop-front-init c = subst (λ text. IsUndoneTo c.args.rule c.args.bytes.now text c.args.bytes.now) (sym c.new-text.ensures.items) (undone_none c.args.rule c.args.bytes.now)

pub returns-in_default-escape_of : goal.returns-in_default-escape_of
returns-in_default-escape_of c text =
    undone_never c.args.rule c.args.bytes.now _ (backslash ∷ c.in-Some.after.now) text
    (undone_run c.args.rule c.args.bytes.now c.loop-front.text.items c.loop-front.rest.now c.in-Some.front.now (backslash ∷ c.in-Some.after.now) c.loop-front.invariant c.in-Some.ensures.0 c.in-Some.ensures.1)
    (λ e. cc) c.in_default-escape_of.ensures

pub loop-front-preserved : goal.loop-front-preserved
loop-front-preserved c =
    let run = undone_run c.args.rule c.args.bytes.now c.loop-front.text.items c.loop-front.rest.now c.in-Some.front.now (backslash ∷ c.in-Some.after.now) c.loop-front.invariant c.in-Some.ensures.0 c.in-Some.ensures.1 in
    let more = undone_more c.args.rule c.args.bytes.now _ _ _ _ run c.in-Some-escape_of.ensures in
    subst (λ text. IsUndoneTo c.args.rule c.args.bytes.now text c.in-Some-escape_of.behind.now)
    (ap (λ (zs : List ℕ). zs ++ encode_utf8 c.in-Some-escape_of.c) (sym c.in_ok-extend_from_slice.ensures.items) ∙ sym c.in_ok-push_character.ensures) more

pub returns : goal.returns
returns c =
    let run = undone_run c.args.rule c.args.bytes.now c.loop-front.text.items c.loop-front.rest.now c.loop-front.rest.now [] c.loop-front.invariant (sym (append-nil c.loop-front.rest.now)) c.in_default.ensures in
    let all = undone_all c.args.rule c.args.bytes.now _ run in
    subst (Undoes c.args.rule c.args.bytes.now) (sym c.in_ok-extend_from_slice-2.ensures.items) all
