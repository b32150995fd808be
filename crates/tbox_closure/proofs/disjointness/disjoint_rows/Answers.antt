use Rattle.std.proofs.Common.{◌≡◌, ◌<◌, ℕ, List, length, sym, ap, subst, ◌∙◌, arith, ⊎_elim}
use Rattle.std.specs.Prelude.{◌↔◌}
use Rattle.std.proofs.lemmas.List.{with_items_is}
use Rattle.dl_laws.specs.Paths.{Path}
use Rattle.tbox_closure.specs.Disjointness.{all_pairs, IsPair, AreDisjointRows}
use Rattle.tbox_closure.specs.Graphs.{Gathers}
use Rattle.tbox_closure.specs.Marks.{IsMarked, row}
use Rattle.tbox_closure.proofs.TurnLaws.{pair, disjoint_is, path_before}
use Rattle.tbox_closure.proofs.disjointness.disjoint_rows.Goals as goal

pub returns : goal.returns
returns c =
    let n : ℕ = c.args.graph.now.nodes in
    let edges : List (ℕ × ℕ) = c.args.graph.now.edges in
    let pairs : List (ℕ × ℕ) = all_pairs c.args.kind c.args.axioms.now in
    let one : List (List ℕ) = c.gather_declared.new.rows in
    let last : List (List ℕ) = c.gather.new.rows in
    let input : List (List ℕ) = c.as_slice.result.now in
    let turned : List (List ℕ) = c.in_ok-turned.turned.items in
    let count : length c.in_ok-rows.rows.items ≡ n = c.in_ok-rows.ensures.length ∙ c.nodes.ensures.count in
    let kept : length one ≡ length c.in_ok-rows.rows.items = omega (arith, ap length c.as_mut_slice.ensures.value) in
    let input_is : input ≡ one = c.as_slice.ensures.value ∙ with_items_is c.in_ok-rows.rows one (omega (arith, kept)) in
    let many : length input ≡ n = omega (arith, ap length input_is, kept, count) in
    let given : c.as_mut_slice-2.result.now ≡ turned = c.as_mut_slice-2.ensures.value in
    let last_kept : length last ≡ length turned = omega (arith, ap length given) in
    let last_is = with_items_is c.in_ok-turned.turned last (omega (arith, last_kept)) in
    let first : (i k : ℕ) → IsMarked (row input i) k ↔ ((d : ℕ) × Path edges i d × IsPair pairs d k) =
    subst (λ (rows : List (List ℕ)). (i k : ℕ) → IsMarked (row rows i) k ↔ ((d : ℕ) × Path edges i d × IsPair pairs d k)) (sym input_is) c.gather_declared.ensures in
    let turn : (i k : ℕ) → IsMarked (row turned k) i ↔ ((k < n) × IsMarked (row input i) k) =
    subst (λ (m : ℕ). (i k : ℕ) → IsMarked (row turned k) i ↔ ((k < m) × IsMarked (row input i) k)) many c.in_ok-turned.ensures.turned in
    let then : (i k : ℕ) → IsMarked (row last i) k ↔ Gathers edges turned i k =
    subst (λ (rows : List (List ℕ)). (i k : ℕ) → IsMarked (row last i) k ↔ Gathers edges rows i k) given c.gather.ensures in
    subst (AreDisjointRows edges pairs) (sym last_is)
    (disjoint_is edges pairs n input turned last (path_before edges n c.nodes.ensures.range)
    (λ d e h. ⊎_elim (λ m. c.requires (pair d e) m) (λ m. let low = c.requires (pair e d) m in (low.1, low.0)) h) first turn then)
