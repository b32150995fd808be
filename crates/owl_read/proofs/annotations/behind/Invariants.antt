use Rattle.std.proofs.Common.{◌≡◌, drop, map}
use Rattle.owl_read.specs.Annotations.{behind}
use Rattle.owl_read.specs.Items.{item_of}
use Rattle.owl_read.proofs.annotations.behind.Given as goal

abbrev pub invariant-loop-place : goal.invariant-loop-place
invariant-loop-place l = behind (map item_of (drop l.place l.nodes)) ≡ behind (map item_of l.nodes)
