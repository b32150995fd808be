use Rattle.std.proofs.Common.{◌≡◌, ◌<◌, ◌/◌, ◌%◌, ◌*◌, ◌^◌, ◌∙◌, ◌⊎◌, ℕ, List, length, get_or, set, bit_or, ap, sym, subst, arith, ⊎_elim}
use Rattle.std.proofs.lemmas.Grind.{get_or_default_zero}
use Rattle.tbox_closure.specs.Marks.{IsMarked}
use Rattle.tbox_closure.proofs.RowLaws.{marked_either, marked_kept, first_itself}
use Rattle.tbox_closure.proofs.marks.Marks.mark.Goals as goal

pub returns-clause-marked : goal.returns-clause-marked
returns-clause-marked c k =
    let words : List ℕ = c.self.inside.words.items in
    let node : ℕ = c.args.node in
    let old : List ℕ = c.args.self.now in
    let are : words ≡ old = c.self.view_is in
    let len : length words ≡ length old = ap length are in
    let low = c.requires in
    let within : node / 64 < length words = omega (arith, len, low) in
    let word : c.index-word.result.now ≡ get_or words (node / 64) 0 = c.index-word.ensures ∙ get_or_default_zero words (node / 64) c.index-word.result.now within in
    let P : ℕ → Type 0 = λ x. (IsMarked (set words (node / 64) (bit_or x (1 * 2 ^ (node % 64) % 2 ^ 64))) k → (k ≡ node) ⊎ IsMarked old k)
    × ((k ≡ node) ⊎ IsMarked old k → IsMarked (set words (node / 64) (bit_or x (1 * 2 ^ (node % 64) % 2 ^ 64))) k) in
    subst P (sym word) (
      λ h. subst (λ (xs : List ℕ). (k ≡ node) ⊎ IsMarked xs k) are (marked_either words node k within h),
      λ e. ⊎_elim (λ e. first_itself words node (get_or words (node / 64) 0) k within e) (λ h. marked_kept words node k within (subst (λ (xs : List ℕ). IsMarked xs k) (sym are) h)) e,
    )
