use Rattle.std.proofs.Common.{rules}
use Rattle.owl_syntax.specs.declared.nodes.Node.{the_lemmas}
use Rattle.owl_read.proofs.NodeLaws.{row_items}
use Rattle.owl_read.proofs.nodes.word_in.Goals as goal

pub returns-in-Word : goal.returns-in-Word
returns-in-Word c = search (rules, the_lemmas, row_items)
