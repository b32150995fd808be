use Rattle.std.proofs.Common.{◌≡◌, ◌<◌, List, Some, length, refl, sym, ◌∙◌, subst, arith}
use Rattle.std.specs.Prelude.{slice_get}
use Rattle.std.proofs.lemmas.Option.{same_Some, slice_get_read}
use Rattle.dl_base.specs.Updates.{IsWellFormed}
use Rattle.update_engine.specs.Judging.{IsNamed}
use Rattle.transaction.specs.Holding.{Held}
use Rattle.transaction.proofs.begun.AllBegun.change.Goals as goal

pub returns-clause-ill_formed : goal.returns-clause-ill_formed
returns-clause-ill_formed g c = λ h name e ill.
    let items = c.self.inside.items in
    let x : Held = c.index_mut-held.result.now in
    let at : slice_get items.items c.args.place ≡ Some x = slice_get_read items.items (length items.items) c.args.place x refl (subst (λ (hs : List Held). c.args.place < length hs) (sym c.self.view_is) c.requires.place) c.index_mut-held.ensures.value in
    let same : x ≡ h = same_Some x h (sym (subst (λ (hs : List Held). slice_get hs c.args.place ≡ Some x) c.self.view_is at) ∙ e) in
    subst (λ (y : Held). (length y.transaction.requests < 10000) × IsNamed y.transaction.ontology.axioms c.args.inserts.now c.args.deletes.now name) (c.held.view_is ∙ same)
    ((c.change.ensures.ill_formed name).0 ill)

pub returns-clause-memory : goal.returns-clause-memory
returns-clause-memory g c = λ h e wanting.
    let items = c.self.inside.items in
    let x : Held = c.index_mut-held.result.now in
    let at : slice_get items.items c.args.place ≡ Some x = slice_get_read items.items (length items.items) c.args.place x refl (subst (λ (hs : List Held). c.args.place < length hs) (sym c.self.view_is) c.requires.place) c.index_mut-held.ensures.value in
    let same : x ≡ h = same_Some x h (sym (subst (λ (hs : List Held). slice_get hs c.args.place ≡ Some x) c.self.view_is at) ∙ e) in
    subst (λ (y : Held). (length y.transaction.requests < 10000) × IsWellFormed y.transaction.ontology.axioms c.args.inserts.now c.args.deletes.now) (c.held.view_is ∙ same)
    (c.change.ensures.memory wanting)
