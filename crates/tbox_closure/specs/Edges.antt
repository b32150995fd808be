-- The edges of all axioms.
use Rattle.std.specs.Prelude.{ℕ, List}
use Rattle.std.specs.List.{flat_map}
use Rattle.dl_base.specs.declared.axioms.Axiom.{Axiom}
use Rattle.dl_laws.specs.Edges.{concept_edges, role_edges, attr_edges, need_edges}
use Rattle.tbox_closure.specs.declared.edges.Part.{Part}
use Rattle.tbox_closure.specs.declared.edges.Part.TheVariants as part

abbrev pub edges_of : Part → Axiom → List (ℕ × ℕ)
edges_of part.ConceptEdges = concept_edges
edges_of part.RoleEdges = role_edges
edges_of part.AttrEdges = attr_edges
edges_of part.NeedEdges = need_edges

abbrev pub all_edges : Part → List Axiom → List (ℕ × ℕ)
all_edges part axioms = flat_map (edges_of part) axioms
