use Rattle.std.proofs.Common.{◌≡◌, drop, map}
use Rattle.owl_read.specs.Items.{item_of}
use Rattle.owl_read.specs.Outcomes.{with_front}
use Rattle.owl_read.specs.Rows.{sides_at}
use Rattle.owl_read.proofs.scope.Scope.sides.Given as goal

abbrev pub invariant-loop-node : goal.invariant-loop-node
invariant-loop-node l = with_front l.sides.items (sides_at l.sort l.self (map item_of (drop l.node-index l.nodes))) ≡ sides_at l.sort l.initial.self (map item_of l.nodes)
