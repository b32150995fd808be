use Rattle.std.proofs.Common.{◌≡◌, ◌<◌, List, Some, length, refl, sym, ◌∙◌, ap, subst, arith}
use Rattle.std.specs.Prelude.{slice_get}
use Rattle.std.proofs.lemmas.Option.{slice_get_read}
use Rattle.transaction.specs.Holding.{Held, IsPlaceOf}
use Rattle.transaction.specs.Serving.{Open}
use Rattle.transaction.proofs.BegunLaws.{next_none, none_past}
use Rattle.transaction.proofs.begun.AllBegun.place_of.Goals as goal

pub returns-then-held-editor-clause-found : goal.returns-then-held-editor-clause-found
returns-then-held-editor-clause-found g c =
    let items = c.self.inside.items in
    let h : Held = c.index-held.result.now in
    let t : Open = c.held.inside.transaction in
    let own : Held = record { editor = c.args.editor; transaction = t } in
    let same : h ≡ own = sym c.held.view_is ∙ ap (λ n. let o : Held = record { editor = n; transaction = t } in o) c.if-held-editor.true in
    let at : slice_get items.items c.loop-place.place ≡ Some h = slice_get_read items.items (length items.items) c.loop-place.place h refl (omega (arith, c.loop-place-test.true, c.len-place-end.ensures, items.ok.0)) c.index-held.ensures in
    subst (λ (hs : List Held). IsPlaceOf c.args.editor hs c.loop-place.place) c.self.view_is ((t, at ∙ ap (λ (o : Held). Some o) same), c.loop-place.invariant)

pub loop-place-preserved : goal.loop-place-preserved
loop-place-preserved g c =
    let items = c.self.inside.items in
    let h : Held = c.index-held.result.now in
    let at : slice_get items.items c.loop-place.place ≡ Some h = slice_get_read items.items (length items.items) c.loop-place.place h refl (omega (arith, c.loop-place-test.true, c.len-place-end.ensures, items.ok.0)) c.index-held.ensures in
    next_none c.args.editor items.items c.loop-place.place h at (λ e. c.if-held-editor.false (ap (λ (o : Held). o.editor) c.held.view_is ∙ e)) c.loop-place.invariant

pub returns-clause-none : goal.returns-clause-none
returns-clause-none g c = λ e.
    let items = c.self.inside.items in
    ap (λ (hs : List Held). Rattle.transaction.specs.Worlds.of_editor c.args.editor (Rattle.std.specs.Prelude.map Rattle.transaction.specs.Holding.begun_of hs)) (sym c.self.view_is)
    ∙ none_past c.args.editor items.items c.loop-place.place (omega (arith, c.loop-place-test.false, c.len-place-end.ensures, items.ok.0)) c.loop-place.invariant
