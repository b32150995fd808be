use Rattle.std.proofs.Common.{◌≤◌, ◌<◌, ◌/◌, subst, refl, arith, ◌↔◌}
use Rattle.dl_base.specs.Ontologies.{Theory}
use Rattle.dl_laws.specs.Meeting.{AreDisjointAttrs}
use Rattle.tbox_closure.specs.Marks.{IsMarked, row}
use Rattle.tbox_closure.proofs.DisjointLaws.{mark_told, attr_disjoint}
use Rattle.tbox_closure.proofs.tables.Tables.next_disjoint_attr.Goals as goal

pub returns-clause-passed : goal.returns-clause-passed
returns-clause-passed c u low high h =
    let inside = c.self.inside in
    let marks = c.self.invariant.disjoint_attrs c.args.attr.0 u.0 in
    let means = attr_disjoint inside.ontology.axioms c.args.attr u in
    let marked = IsMarked (row c.as_slice-rows.result.now c.args.attr.0) u.0 in
    let told = subst (λ (t : Theory). marked ↔ AreDisjointAttrs t.axioms c.args.attr u) c.self.view_is
    (mark_told marked (AreDisjointAttrs inside.ontology.axioms c.args.attr u) c.as_slice-rows.result.now inside.disjoint_attrs.items
    c.args.attr.0 u.0 c.args.attr.0 u.0
    ((λ m. m), (λ m. m)) c.as_slice-rows.ensures.value refl refl ((λ m. means.0 (marks.0 m)), (λ m. marks.1 (means.1 m)))) in
    let from : c.args.from / 64 ≤ u.0 / 64 = omega (arith, low) in
    let before : u.0 / 64 < c.next_word-word.result = omega (arith, low, high, c.max.ensures, c.saturating_mul.ensures) in
    c.next_word-word.ensures u.0 from before (told.1 h)
