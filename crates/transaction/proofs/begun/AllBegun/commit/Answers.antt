use Rattle.std.proofs.Common.{◌≡◌, ◌<◌, List, Some, length, refl, sym, ◌∙◌, ap, subst, arith}
use Rattle.std.specs.Prelude.{slice_get}
use Rattle.std.specs.List.{insert, remove}
use Rattle.std.proofs.lemmas.Option.{slice_get_read}
use Rattle.dl_base.specs.Histories.{HasChange}
use Rattle.transaction.specs.Holding.{Held, BeganIn, IsCommitted}
use Rattle.transaction.specs.Serving.{Open}
use Rattle.transaction.proofs.BegunLaws.{put_again}
use Rattle.transaction.proofs.begun.AllBegun.commit.Goals as goal

pub committed-requires-clause-began : goal.committed-requires-clause-began
committed-requires-clause-began g c =
    let items = c.self.inside.items in
    let h : Held = c.remove.result in
    let at : slice_get items.items c.args.place ≡ Some h = slice_get_read items.items (length items.items) c.args.place h refl (subst (λ (hs : List Held). c.args.place < length hs) (sym c.self.view_is) c.requires.place) c.remove.ensures.value in
    subst (λ (x : Held). BeganIn c.args.history.now x.transaction) (sym c.editor.view_is) (c.requires.began c.args.place h (subst (λ (hs : List Held). slice_get hs c.args.place ≡ Some h) c.self.view_is at))

pub committed-requires-clause-change : goal.committed-requires-clause-change
committed-requires-clause-change g c =
    let items = c.self.inside.items in
    let h : Held = c.remove.result in
    let at : slice_get items.items c.args.place ≡ Some h = slice_get_read items.items (length items.items) c.args.place h refl (subst (λ (hs : List Held). c.args.place < length hs) (sym c.self.view_is) c.requires.place) c.remove.ensures.value in
    subst (λ (x : Held). HasChange x.transaction.requests) (sym c.editor.view_is) (c.requires.change h (subst (λ (hs : List Held). slice_get hs c.args.place ≡ Some h) c.self.view_is at))

pub returns-in-Ok-clause-ok : goal.returns-in-Ok-clause-ok
returns-in-Ok-clause-ok g c =
    let items = c.self.inside.items in
    let h : Held = c.remove.result in
    let at : slice_get items.items c.args.place ≡ Some h = slice_get_read items.items (length items.items) c.args.place h refl (subst (λ (hs : List Held). c.args.place < length hs) (sym c.self.view_is) c.requires.place) c.remove.ensures.value in
    let there : slice_get c.args.self.now c.args.place ≡ Some h = subst (λ (hs : List Held). slice_get hs c.args.place ≡ Some h) c.self.view_is at in
    let done = subst (λ (x : Held). IsCommitted c.args.history.now x.editor x.transaction c.in-Ok.reply c.committed.new.history) c.editor.view_is c.in-Ok.ensures.ok in
    ((h, there, done), c.remove.ensures.items ∙ ap (λ (hs : List Held). remove hs c.args.place) c.self.view_is)

pub returns-in_ok-insert-in-Err-clause-refused : goal.returns-in_ok-insert-in-Err-clause-refused
returns-in_ok-insert-in-Err-clause-refused g c =
    let items = c.self.inside.items in
    let h : Held = c.remove.result in
    let at : slice_get items.items c.args.place ≡ Some h = slice_get_read items.items (length items.items) c.args.place h refl (subst (λ (hs : List Held). c.args.place < length hs) (sym c.self.view_is) c.requires.place) c.remove.ensures.value in
    let given : Held = record { editor = c.editor.inside.editor; transaction = c.in-Err.transaction } in
    let same : given ≡ h = ap (λ (t : Open). let o : Held = record { editor = c.editor.inside.editor; transaction = t } in o) c.in-Err.ensures.refused.0 ∙ c.editor.view_is in
    let put : c.insert.new.self.items ≡ insert c.remove.new.self.items c.args.place given = c.in_ok-insert-in-Err.ensures.items in (
      put
          ∙ ap (λ (hs : List Held). insert hs c.args.place given) c.remove.ensures.items
          ∙ ap (λ (x : Held). insert (remove items.items c.args.place) c.args.place x) same
          ∙ put_again items.items c.args.place h at
          ∙ c.self.view_is,
      c.in-Err.ensures.refused.1,
    )
