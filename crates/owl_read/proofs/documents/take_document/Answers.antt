use Rattle.std.proofs.Common.{◌∙◌, List, ap, sym, subst, map}
use Rattle.owl_read.specs.Documents.{Takes}
use Rattle.owl_read.specs.Held.{held}
use Rattle.owl_read.specs.Items.{Item, item_of}
use Rattle.owl_read.proofs.NodeLaws.{inside_word}
use Rattle.owl_read.proofs.documents.take_document.Goals as goal

pub returns-in-Word : goal.returns-in-Word
returns-in-Word c =
    subst (λ (items : List Item). Takes (held c.args.reader.now) items (held c.take_all.new.reader) c.take_all.result)
    (ap (map item_of) c.deref.ensures.value ∙ sym (inside_word c.args.root.now c.in-Word.line c.in-Word.text c.in-Word.args c.in-Word.is))
    c.take_all.ensures
