use Rattle.std.proofs.Common.{ℕ, ◌*◌, List, sym, subst}
use Rattle.dl_base.specs.Ontologies.{Theory}
use Rattle.tbox_closure.specs.declared.edges.Part.TheVariants as part
use Rattle.tbox_closure.specs.Edges.{all_edges}
use Rattle.tbox_closure.specs.Graphs.{AreBelow}
use Rattle.tbox_closure.specs.Tables.{IsNoted}
use Rattle.tbox_closure.proofs.KnownRange.{need_edges_below}
use Rattle.tbox_closure.proofs.emptiness.empty_rows.Goals as goal

pub table-requires : goal.table-requires
table-requires c = subst (λ (t : Theory). AreBelow (4 * c.terms-nodes.result) (all_edges part.NeedEdges t.axioms)) (sym c.ontology.ensures)
    (subst (λ (n : ℕ). AreBelow (4 * n) (all_edges part.NeedEdges c.args.tables.now.axioms)) (sym c.terms-nodes.ensures.count) (need_edges_below c.args.tables.now c.terms-nodes.ensures.sound.known))

pub gather_empty-requires-clause-none : goal.gather_empty-requires-clause-none
gather_empty-requires-clause-none c k = subst (λ (rows : List (List ℕ)). ¬ IsNoted rows k) (sym c.as_mut_slice.ensures.value) (c.in_ok-rows.ensures.unmarked k 0)
