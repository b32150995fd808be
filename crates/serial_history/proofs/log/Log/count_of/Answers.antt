use Rattle.std.proofs.Common.{◌+◌, List, length, take, true, false, arith, sym, ◌∙◌, ap, eq-eqb}
use Rattle.std.specs.Prelude.{nat_eq, filter}
use Rattle.std.proofs.lemmas.Bool.Decides.{eqb_tells}
use Rattle.std.proofs.Common.{⊎_elim, add-zero}
use Rattle.std.proofs.lemmas.List.{take_all}
use Rattle.std.proofs.lemmas.List.{length-take}
use Rattle.dl_base.specs.declared.requests.Entry.{Entry}
use Rattle.dl_base.specs.Histories.{own}
use Rattle.serial_history.proofs.EntryLaws.{is_of, counted_more, counted_few, own_is}
use Rattle.serial_history.proofs.log.Log.count_of.Goals as goal
use Rattle.serial_history.proofs.log.Log.count_of.Goals.{then-deref-editor, else-deref-editor}

pub overflow_add-count : goal.overflow_add-count
overflow_add-count c =
    let few = counted_few c.args.editor (take c.loop-entry.entry-index c.as_slice-entry-items.result.now) in
    let short = length-take c.loop-entry.entry-index c.as_slice-entry-items.result.now in
    let most = c.as_slice-entry-items.type_inv in
    omega (arith, few, short, c.loop-entry.invariant)

pub loop-entry-preserved : goal.loop-entry-preserved
loop-entry-preserved c =
    let more = counted_more c.args.editor c.as_slice-entry-items.result.now c.loop-entry.entry-index c.entry-item.result c.loop-entry-test.true c.entry-item.is in
    let same = ap (λ (e : Entry). nat_eq e.editor c.args.editor) (sym c.deref.ensures) in
    elim c.if-deref-editor.branch [
      | then-deref-editor w ↦
          w.count-is ∙ ap (λ n. n + 1) c.loop-entry.invariant ∙ sym (more true (same ∙ eq-eqb c.deref.result.now.editor c.args.editor w.if-deref-editor.true))
      | else-deref-editor w ↦
          w.count-is ∙ c.loop-entry.invariant ∙ sym (more false (same ∙ ⊎_elim (λ h. absurd (w.if-deref-editor.false h.1)) (λ h. h.0) (eqb_tells c.deref.result.now.editor c.args.editor)) ∙ add-zero _)
    ]

pub returns : goal.returns
returns c =
    c.loop-entry.invariant
    ∙ ap (λ xs. length (filter (is_of c.args.editor) xs)) (take_all c.loop-entry.entry-index c.as_slice-entry-items.result.now c.loop-entry-test.false)
    ∙ own_is c.args.editor c.as_slice-entry-items.result.now
    ∙ ap (λ (es : List Entry). length (own c.args.editor es)) c.as_slice-entry-items.ensures
