use Rattle.std.proofs.Common.{IsTrue, subst, ◌↔◌}
use Rattle.dl_base.specs.Reach.{ConceptReaches}
use Rattle.dl_base.specs.Ontologies.{Theory}
use Rattle.dl_laws.specs.Edges.{concept_node}
use Rattle.dl_laws.proofs.EdgeLaws.{concept_paths}
use Rattle.tbox_closure.specs.declared.edges.Part.TheVariants as part
use Rattle.tbox_closure.specs.Edges.{all_edges}
use Rattle.tbox_closure.proofs.DisjointLaws.{told}
use Rattle.tbox_closure.proofs.tables.Tables.concept.Goals as goal

pub returns : goal.returns
returns c =
    let inside = c.self.inside in
    subst (λ (t : Theory). IsTrue c.reaches.result ↔ ConceptReaches t.axioms c.args.from c.args.to) c.self.view_is
    (told (IsTrue c.reaches.result) (ConceptReaches inside.ontology.axioms c.args.from c.args.to) inside.concepts.edges (all_edges part.ConceptEdges inside.ontology.axioms)
    c.concept_number.result c.concept_number-2.result (concept_node c.args.from) (concept_node c.args.to)
    c.reaches.ensures c.self.invariant.concepts c.concept_number.ensures c.concept_number-2.ensures (concept_paths inside.ontology.axioms c.args.from c.args.to))
