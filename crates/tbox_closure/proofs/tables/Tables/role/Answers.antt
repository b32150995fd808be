use Rattle.std.proofs.Common.{IsTrue, subst, ◌↔◌}
use Rattle.dl_base.specs.Clash.{RoleReaches}
use Rattle.dl_base.specs.Ontologies.{Theory}
use Rattle.dl_laws.specs.Edges.{role_node}
use Rattle.dl_laws.proofs.EdgeLaws.{role_paths}
use Rattle.tbox_closure.specs.declared.edges.Part.TheVariants as part
use Rattle.tbox_closure.specs.Edges.{all_edges}
use Rattle.tbox_closure.proofs.DisjointLaws.{told}
use Rattle.tbox_closure.proofs.tables.Tables.role.Goals as goal

pub returns : goal.returns
returns c =
    let inside = c.self.inside in
    subst (λ (t : Theory). IsTrue c.reaches.result ↔ RoleReaches t.axioms c.args.from c.args.to) c.self.view_is
    (told (IsTrue c.reaches.result) (RoleReaches inside.ontology.axioms c.args.from c.args.to) inside.roles.edges (all_edges part.RoleEdges inside.ontology.axioms)
    c.role_number.result c.role_number-2.result (role_node c.args.from) (role_node c.args.to)
    c.reaches.ensures c.self.invariant.roles c.role_number.ensures c.role_number-2.ensures (role_paths inside.ontology.axioms c.args.from c.args.to))
