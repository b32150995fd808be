use Rattle.std.proofs.Common.{IsTrue, subst, refl, ◌↔◌}
use Rattle.dl_base.specs.Clash.{AttrReaches}
use Rattle.dl_base.specs.Ontologies.{Theory}
use Rattle.dl_laws.proofs.EdgeLaws.{attr_paths}
use Rattle.tbox_closure.specs.declared.edges.Part.TheVariants as part
use Rattle.tbox_closure.specs.Edges.{all_edges}
use Rattle.tbox_closure.proofs.DisjointLaws.{told}
use Rattle.tbox_closure.proofs.tables.Tables.attr.Goals as goal

pub returns : goal.returns
returns c =
    let inside = c.self.inside in
    subst (λ (t : Theory). IsTrue c.reaches.result ↔ AttrReaches t.axioms c.args.from c.args.to) c.self.view_is
    (told (IsTrue c.reaches.result) (AttrReaches inside.ontology.axioms c.args.from c.args.to) inside.attrs.edges (all_edges part.AttrEdges inside.ontology.axioms)
    c.args.from.0 c.args.to.0 c.args.from.0 c.args.to.0
    c.reaches.ensures c.self.invariant.attrs refl refl (attr_paths inside.ontology.axioms c.args.from c.args.to))
