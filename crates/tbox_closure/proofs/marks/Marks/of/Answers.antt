use Rattle.std.proofs.Common.{◌≡◌, ◌<◌, ◌∙◌, ◌/◌, ℕ, List, length, get_or, ap, arith, replicate}
use Rattle.std.proofs.lemmas.List.{get_or-replicate, length-replicate}
use Rattle.tbox_closure.proofs.RowLaws.{first_alone, first_itself, all_zero}
use Rattle.tbox_closure.proofs.marks.Marks.of.Goals as goal

pub returns-clause-marked : goal.returns-clause-marked
returns-clause-marked c k =
    let words : List ℕ = c.in_ok-words.words.items in
    let place : ℕ = c.args.node / 64 in
    let old : ℕ = c.index_mut.result.now in
    let are : words ≡ replicate {A = ℕ} c.args.width 0 = c.in_ok-words.ensures.items_if_clones_equal (λ y e. e) in
    let low : place < c.args.width = omega arith in
    let len : length words ≡ c.args.width = ap length are ∙ length-replicate {A = ℕ} c.args.width 0 in
    let within : place < length words = omega (arith, low, len) in
    let none : old ≡ 0 = c.index_mut.ensures.value ∙ ap (λ (xs : List ℕ). get_or xs place old) are ∙ get_or-replicate c.args.width place 0 old low in (
      first_alone words c.args.node old k within (λ w. ap (λ (xs : List ℕ). get_or xs w 0) are ∙ all_zero c.args.width w) none,
      first_itself words c.args.node old k within,
    )
