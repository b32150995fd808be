use Rattle.std.proofs.Common.{◌∙◌, ap, sym, List}
use Rattle.owl_syntax.specs.declared.nodes.Node.{Node}
use Rattle.owl_syntax.specs.Trees.{forest_of}
use Rattle.owl_read.specs.Items.{Word, item_of}
use Rattle.owl_read.proofs.NodeLaws.{item_word}
use Rattle.owl_read.proofs.AnnotationLaws.{front_word}
use Rattle.owl_read.proofs.scope.Scope.+annotations.Goals as goal

pub front-returns-in-Word : goal.front-returns-in-Word
front-returns-in-Word t c =
    let is = item_word c.args.node.now c.in-Word.line c.in-Word.text c.in-Word.args c.in-Word.is
    ∙ ap (λ (nodes : List Node). Word c.in-Word.line c.in-Word.text.now (forest_of nodes)) (sym c.deref.ensures.value) in
    rw (front_word c.args.self.now (item_of c.args.node.now) c.in-Word.line c.in-Word.text.now c.deref.result.now is) c.word_front.ensures
