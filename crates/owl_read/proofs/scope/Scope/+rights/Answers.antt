use Rattle.std.proofs.Common.{◌∙◌, ap, sym, List}
use Rattle.owl_syntax.specs.declared.nodes.Node.{Node}
use Rattle.owl_syntax.specs.Trees.{forest_of}
use Rattle.owl_read.specs.Items.{Word, item_of}
use Rattle.owl_read.proofs.NodeLaws.{item_word}
use Rattle.owl_read.proofs.RightLaws.{word_case, rights_start}
use Rattle.owl_read.proofs.scope.Scope.+rights.Goals as goal

pub right-returns-in-Word : goal.right-returns-in-Word
right-returns-in-Word t c =
    let is = item_word c.args.node.now c.in-Word.line c.in-Word.text c.in-Word.args c.in-Word.is
    ∙ ap (λ (nodes : List Node). Word c.in-Word.line c.in-Word.text.now (forest_of nodes)) (sym c.deref.ensures.value) in
    rw (word_case c.args.self.now (item_of c.args.node.now) c.in-Word.line c.in-Word.text.now c.deref.result.now is) c.word_right.ensures

pub rights-loop-node-init : goal.rights-loop-node-init
rights-loop-node-init t c = rights_start c.args.parts.now.items c.args.self.now c.args.nodes.now
