use Rattle.std.proofs.Common.{IsTrue, subst, ◌↔◌}
use Rattle.dl_base.specs.Ontologies.{Theory}
use Rattle.dl_laws.specs.Edges.{concept_node}
use Rattle.dl_laws.specs.Meeting.{AreDisjointConcepts}
use Rattle.tbox_closure.proofs.DisjointLaws.{mark_told, concept_disjoint}
use Rattle.tbox_closure.proofs.tables.Tables.disjoint_concepts.Goals as goal

pub returns : goal.returns
returns c =
    let inside = c.self.inside in
    let marks = c.self.invariant.disjoint_concepts (concept_node c.args.one) (concept_node c.args.other) in
    let means = concept_disjoint inside.ontology.axioms c.args.one c.args.other in
    subst (λ (t : Theory). IsTrue c.is_marked.result ↔ AreDisjointConcepts t.axioms c.args.one c.args.other) c.self.view_is
    (mark_told (IsTrue c.is_marked.result) (AreDisjointConcepts inside.ontology.axioms c.args.one c.args.other) c.as_slice.result.now inside.disjoint_concepts.items
    c.concept_number.result c.concept_number-2.result (concept_node c.args.one) (concept_node c.args.other)
    c.is_marked.ensures c.as_slice.ensures.value c.concept_number.ensures c.concept_number-2.ensures ((λ h. means.0 (marks.0 h)), (λ h. marks.1 (means.1 h))))
