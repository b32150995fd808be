use Rattle.std.proofs.Common.{sym, subst, ap, ◌∙◌}
use Rattle.tbox_closure.specs.Edges.{all_edges}
use Rattle.tbox_closure.specs.Graphs.{AreBelow}
use Rattle.tbox_closure.proofs.tables.table.Goals as goal

pub of-requires : goal.of-requires
of-requires c = subst (AreBelow c.args.nodes) (sym (c.in_ok-gather.ensures ∙ ap (all_edges c.args.part) c.axioms.ensures)) c.requires
