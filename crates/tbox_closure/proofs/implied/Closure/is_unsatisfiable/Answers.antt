use Rattle.std.proofs.Common.{IsTrue, subst, refl, ◌↔◌}
use Rattle.dl_base.specs.Ontologies.{Theory}
use Rattle.dl_laws.specs.Edges.{merged_node}
use Rattle.dl_laws.specs.Emptiness.{IsUnsatisfiable}
use Rattle.tbox_closure.proofs.DisjointLaws.{mark_told}
use Rattle.tbox_closure.proofs.implied.Closure.is_unsatisfiable.Goals as goal

pub returns : goal.returns
returns c =
    let inside = c.self.inside in
    subst (λ (t : Theory). IsTrue c.is_marked.result ↔ IsUnsatisfiable t.axioms c.args.concept) c.self.view_is
    (mark_told (IsTrue c.is_marked.result) (IsUnsatisfiable inside.tables.axioms c.args.concept) c.as_slice.result.now inside.empty.items
    c.merged_number.result 0 (merged_node c.args.concept) 0
    c.is_marked.ensures c.as_slice.ensures.value c.merged_number.ensures refl (c.self.invariant c.args.concept))
