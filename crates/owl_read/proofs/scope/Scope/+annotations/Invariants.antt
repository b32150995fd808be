use Rattle.std.proofs.Common.{◌≡◌, drop, map}
use Rattle.owl_read.specs.Annotations.{annotations_at}
use Rattle.owl_read.specs.Items.{item_of}
use Rattle.owl_read.proofs.scope.Scope.+annotations.Given as goal

abbrev pub invariant-annotations-loop-node : goal.invariant-annotations-loop-node
invariant-annotations-loop-node l = annotations_at l.self (map item_of (drop l.node-index l.nodes)) ≡ annotations_at l.initial.self (map item_of l.nodes)
