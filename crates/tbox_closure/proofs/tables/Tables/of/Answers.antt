use Rattle.dl_base.specs.declared.axioms.Axiom.{Axiom}
use Rattle.tbox_closure.specs.Tables.{AreRanges}
use Rattle.std.proofs.Common.{List, ℕ, ◌*◌, sym, subst, ap, ◌∙◌}
use Rattle.tbox_closure.specs.declared.disjointness.Disjointness.TheVariants as disjoint
use Rattle.tbox_closure.specs.declared.edges.Part.TheVariants as part
use Rattle.tbox_closure.specs.Disjointness.{all_pairs}
use Rattle.tbox_closure.specs.Edges.{all_edges}
use Rattle.tbox_closure.specs.Graphs.{AreBelow}
use Rattle.tbox_closure.proofs.DisjointLaws.{same_rows}
use Rattle.tbox_closure.proofs.KnownRange.{concept_edges_below, role_edges_below, attr_edges_below, concept_pairs_below, role_pairs_below, attr_pairs_below}
use Rattle.tbox_closure.proofs.tables.Tables.of.Goals as goal

pub table-requires : goal.table-requires
table-requires c = subst (λ (n : ℕ). AreBelow (4 * n) (all_edges part.ConceptEdges c.args.ontology.axioms)) (sym c.terms-terms.ensures.count) (concept_edges_below c.args.ontology c.terms-terms.ensures.sound.known)

pub table-requires-2 : goal.table-requires-2
table-requires-2 c = subst (λ (n : ℕ). AreBelow (2 * n) (all_edges part.RoleEdges c.args.ontology.axioms)) (sym c.terms-terms.ensures.count) (role_edges_below c.args.ontology c.terms-terms.ensures.sound.known)

pub table-requires-3 : goal.table-requires-3
table-requires-3 c = subst (λ (n : ℕ). AreBelow n (all_edges part.AttrEdges c.args.ontology.axioms)) (sym c.terms-terms.ensures.count) (attr_edges_below c.args.ontology c.terms-terms.ensures.sound.known)

pub disjoint-requires : goal.disjoint-requires
disjoint-requires c =
    subst (λ (n : ℕ). AreBelow n (all_pairs disjoint.Concepts c.args.ontology.axioms)) (sym (c.in_ok-concepts.ensures.nodes ∙ ap (λ (n : ℕ). 4 * n) c.terms-terms.ensures.count)) (concept_pairs_below c.args.ontology c.terms-terms.ensures.sound.known)

pub disjoint-requires-2 : goal.disjoint-requires-2
disjoint-requires-2 c =
    subst (λ (n : ℕ). AreBelow n (all_pairs disjoint.Roles c.args.ontology.axioms)) (sym (c.in_ok-roles.ensures.nodes ∙ ap (λ (n : ℕ). 2 * n) c.terms-terms.ensures.count)) (role_pairs_below c.args.ontology c.terms-terms.ensures.sound.known)

pub disjoint-requires-3 : goal.disjoint-requires-3
disjoint-requires-3 c =
    subst (λ (n : ℕ). AreBelow n (all_pairs disjoint.Attrs c.args.ontology.axioms)) (sym (c.in_ok-attrs.ensures.nodes ∙ c.terms-terms.ensures.count)) (attr_pairs_below c.args.ontology c.terms-terms.ensures.sound.known)

pub invariant_of-result : goal.invariant_of-result
invariant_of-result c = record {
  concepts = c.in_ok-concepts.ensures.same;
  roles = c.in_ok-roles.ensures.same;
  attrs = c.in_ok-attrs.ensures.same;
  disjoint_concepts = same_rows c.in_ok-concepts.concepts.edges (all_edges part.ConceptEdges c.args.ontology.axioms) (all_pairs disjoint.Concepts c.args.ontology.axioms)
      c.in_ok-disjoint_concepts.disjoint_concepts.items c.in_ok-concepts.ensures.same c.in_ok-disjoint_concepts.ensures;
  disjoint_roles = same_rows c.in_ok-roles.roles.edges (all_edges part.RoleEdges c.args.ontology.axioms) (all_pairs disjoint.Roles c.args.ontology.axioms)
      c.in_ok-disjoint_roles.disjoint_roles.items c.in_ok-roles.ensures.same c.in_ok-disjoint_roles.ensures;
  disjoint_attrs = same_rows c.in_ok-attrs.attrs.edges (all_edges part.AttrEdges c.args.ontology.axioms) (all_pairs disjoint.Attrs c.args.ontology.axioms)
      c.in_ok-disjoint_attrs.disjoint_attrs.items c.in_ok-attrs.ensures.same c.in_ok-disjoint_attrs.ensures;
  ranges = subst (λ (xs : List Axiom). AreRanges xs c.in_ok-ranges.ranges.items) c.axioms.ensures c.in_ok-ranges.ensures;
}
