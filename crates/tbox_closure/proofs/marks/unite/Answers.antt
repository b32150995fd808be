use Rattle.std.proofs.Common.{◌≡◌, ◌<◌, ◌∙◌, ℕ, List, length, get_or, set, bit_or, sym, ap, arith}
use Rattle.std.proofs.lemmas.Bool.{false≢true}
use Rattle.std.proofs.lemmas.Nat.{le_or_l}
use Rattle.std.proofs.lemmas.List.{set-get_or}
use Rattle.tbox_closure.specs.Marks.{spare}
use Rattle.tbox_closure.proofs.RowLaws.{stepped_done, stepped_rest, spare_falls}
use Rattle.tbox_closure.proofs.marks.unite.Goals as goal
use Rattle.tbox_closure.proofs.marks.unite.Goals.{then-word-into, else-word-into}

pub loop-k-preserved : goal.loop-k-preserved
loop-k-preserved c =
    let inv = c.loop-k.invariant in
    let k : ℕ = c.loop-k.k in
    let into : List ℕ = c.loop-k.into in
    let old : List ℕ = c.args.into.now in
    let from : List ℕ = c.args.from.now in
    let word : ℕ = bit_or (get_or into k 0) (get_or from k 0) in
    let within : k < length into = omega arith in
    let at : get_or into k 0 ≡ get_or old k 0 = inv.rest k (omega arith) in
    elim c.if-word-into.branch [
      | then-word-into w ↦
          let up = le_or_l (get_or into k 0) (get_or from k 0) in
          let less : spare (set into k word) < spare into = spare_falls into k word within (omega (arith, up)) (omega arith) in
          let is : spare c.if-word-into.into ≡ spare (set into k word) = ap spare w.into-is in
          record {
            done = stepped_done k into old from c.if-word-into.into within w.into-is inv.done at;
            rest = stepped_rest k into old c.if-word-into.into word w.into-is inv.rest;
            same = λ e. absurd (false≢true (sym e ∙ w.changed-is));
            fewer = λ _. omega (arith, less, is, inv.no_more);
            no_more = omega (arith, less, is, inv.no_more);
          }
      | else-word-into w ↦
          let full : word ≡ get_or into k 0 = w.if-word-into.false in
          let is : c.if-word-into.into ≡ set into k word = w.into-is ∙ sym (ap (set into k) full ∙ set-get_or into k 0) in
          let spares : spare c.if-word-into.into ≡ spare into = ap spare w.into-is in
          record {
            done = stepped_done k into old from c.if-word-into.into within is inv.done at;
            rest = stepped_rest k into old c.if-word-into.into word is inv.rest;
            same = λ e. w.into-is ∙ inv.same (sym w.changed-is ∙ e);
            fewer = λ e. let f = inv.fewer (sym w.changed-is ∙ e) in omega (arith, f, spares);
            no_more = omega (arith, spares, inv.no_more);
          }
    ]
