-- Laws of the nodes of a list.
use Rattle.std.proofs.Common.{◌≡◌, List, [], ◌∷◌, ◌++◌, refl}
use Rattle.owl_syntax.specs.declared.nodes.Node.{Node, Row_of-Node, end_of-Node, more_of-Node}
use Rattle.owl_syntax.specs.declared.nodes.Node.TheBlock.{items-the_row-Node}
use Rattle.owl_syntax.specs.Trees.{Forest, attach, row_from, forest_from}

pub forest_from_push : (before : Forest) (nodes : List Node) (node : Node) → forest_from before (nodes ++ node ∷ []) ≡ attach (forest_from before nodes) node
forest_from_push before [] node = refl
forest_from_push before (n ∷ nodes) node = forest_from_push (attach before n) nodes node

pub row_from_items : {m : _} → (before : Forest) (row : Row_of-Node m) → row_from before row ≡ forest_from before (items-the_row-Node m row)
row_from_items before end_of-Node = refl
row_from_items before (more_of-Node node rest) = row_from_items (attach before node) rest
