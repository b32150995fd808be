use Rattle.std.proofs.Common.{IsTrue, subst, ◌↔◌}
use Rattle.dl_base.specs.Ontologies.{Theory}
use Rattle.dl_laws.specs.Edges.{role_node}
use Rattle.dl_laws.specs.Meeting.{AreDisjointRoles}
use Rattle.tbox_closure.proofs.DisjointLaws.{mark_told, role_disjoint}
use Rattle.tbox_closure.proofs.tables.Tables.disjoint_roles.Goals as goal

pub returns : goal.returns
returns c =
    let inside = c.self.inside in
    let marks = c.self.invariant.disjoint_roles (role_node c.args.one) (role_node c.args.other) in
    let means = role_disjoint inside.ontology.axioms c.args.one c.args.other in
    subst (λ (t : Theory). IsTrue c.is_marked.result ↔ AreDisjointRoles t.axioms c.args.one c.args.other) c.self.view_is
    (mark_told (IsTrue c.is_marked.result) (AreDisjointRoles inside.ontology.axioms c.args.one c.args.other) c.as_slice.result.now inside.disjoint_roles.items
    c.role_number.result c.role_number-2.result (role_node c.args.one) (role_node c.args.other)
    c.is_marked.ensures c.as_slice.ensures.value c.role_number.ensures c.role_number-2.ensures ((λ h. means.0 (marks.0 h)), (λ h. marks.1 (means.1 h))))
