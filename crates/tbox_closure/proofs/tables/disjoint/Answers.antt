use Rattle.std.proofs.Common.{List, sym, subst}
use Rattle.std.specs.Prelude.{IfOk}
use Rattle.dl_base.specs.declared.axioms.Axiom.{Axiom}
use Rattle.tbox_closure.specs.Disjointness.{all_pairs, AreDisjointRows}
use Rattle.tbox_closure.specs.Graphs.{AreBelow}
use Rattle.tbox_closure.proofs.tables.disjoint.Goals as goal

pub disjoint_rows-requires : goal.disjoint_rows-requires
disjoint_rows-requires c = subst (λ (xs : List Axiom). AreBelow c.args.graph.now.nodes (all_pairs c.args.kind xs)) (sym c.axioms.ensures) c.requires

pub returns : goal.returns
returns c = subst (λ (xs : List Axiom). IfOk c.disjoint_rows.result (λ rows. AreDisjointRows c.args.graph.now.edges (all_pairs c.args.kind xs) rows.items)) c.axioms.ensures c.disjoint_rows.ensures
