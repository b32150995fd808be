use Rattle.std.proofs.Common.{◌≡◌, drop, map}
use Rattle.owl_syntax.specs.Trees.{forest_of}
use Rattle.owl_read.specs.Concepts.{rights_in}
use Rattle.owl_read.specs.Items.{item_of}
use Rattle.owl_read.specs.Outcomes.{run, with_front}
use Rattle.owl_read.proofs.RightLaws.{right_step}
use Rattle.owl_read.proofs.scope.Scope.+rights.Given as goal

abbrev pub invariant-rights-loop-node : goal.invariant-rights-loop-node
invariant-rights-loop-node l = run right_step (l.self, l.parts.items) (map item_of (drop l.node-index l.nodes)) ≡ with_front l.initial.parts.items (rights_in l.initial.self (forest_of l.nodes))
