use Rattle.std.proofs.Common.{IsTrue, subst, refl, ◌↔◌}
use Rattle.dl_base.specs.Ontologies.{Theory}
use Rattle.dl_laws.specs.Meeting.{AreDisjointAttrs}
use Rattle.tbox_closure.proofs.DisjointLaws.{mark_told, attr_disjoint}
use Rattle.tbox_closure.proofs.tables.Tables.disjoint_attrs.Goals as goal

pub returns : goal.returns
returns c =
    let inside = c.self.inside in
    let marks = c.self.invariant.disjoint_attrs c.args.one.0 c.args.other.0 in
    let means = attr_disjoint inside.ontology.axioms c.args.one c.args.other in
    subst (λ (t : Theory). IsTrue c.is_marked.result ↔ AreDisjointAttrs t.axioms c.args.one c.args.other) c.self.view_is
    (mark_told (IsTrue c.is_marked.result) (AreDisjointAttrs inside.ontology.axioms c.args.one c.args.other) c.as_slice.result.now inside.disjoint_attrs.items
    c.args.one.0 c.args.other.0 c.args.one.0 c.args.other.0
    c.is_marked.ensures c.as_slice.ensures.value refl refl ((λ h. means.0 (marks.0 h)), (λ h. marks.1 (means.1 h))))
