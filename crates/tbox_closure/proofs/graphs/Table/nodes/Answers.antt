use Rattle.std.proofs.Common.{subst}
use Rattle.tbox_closure.specs.Graphs.{Graph, AreBelow}
use Rattle.tbox_closure.proofs.graphs.Table.nodes.Goals as goal

pub returns-clause-range : goal.returns-clause-range
returns-clause-range c = subst (λ (g : Graph). AreBelow g.nodes g.edges) c.self.view_is c.self.invariant.range
