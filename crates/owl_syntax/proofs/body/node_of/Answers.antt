use Rattle.std.proofs.Common.{rules}
use Rattle.owl_syntax.specs.declared.nodes.Node.{the_lemmas}
use Rattle.owl_syntax.proofs.TreeLaws.{row_from_items}
use Rattle.owl_syntax.proofs.body.node_of.Goals as goal

pub returns-in-Word : goal.returns-in-Word
returns-in-Word c before = search (rules, the_lemmas, row_from_items)

pub returns-in-Group : goal.returns-in-Group
returns-in-Group c before = search (rules, the_lemmas, row_from_items)
