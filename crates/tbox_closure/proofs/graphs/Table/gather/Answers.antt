use Rattle.std.proofs.Common.{◌≡◌, ◌∙◌, ℕ, List, sym, ap, subst, length}
use Rattle.tbox_closure.specs.Graphs.{Graph, AreBelow}
use Rattle.tbox_closure.proofs.graphs.Table.gather.Goals as goal

pub gather-requires-clause-range : goal.gather-requires-clause-range
gather-requires-clause-range c =
    let count : length c.args.rows.now ≡ length c.self.inside.rows.items = c.requires.nodes ∙ sym (ap (λ (g : Graph). g.nodes) c.self.view_is) in
    subst (λ (xs : List (ℕ × ℕ)). AreBelow (length c.args.rows.now) xs) (sym c.as_slice.ensures.value)
    (subst (λ (n : ℕ). AreBelow n c.self.inside.edges.items) (sym count) c.self.invariant.range)
