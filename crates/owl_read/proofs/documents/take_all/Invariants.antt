use Rattle.std.proofs.Common.{take, map}
use Rattle.dl_base.specs.Vocabularies.{Notes}
use Rattle.owl_read.specs.Documents.{IsRead}
use Rattle.owl_read.specs.Held.{held}
use Rattle.owl_read.specs.Items.{item_of}
use Rattle.owl_read.proofs.documents.take_all.Given as goal

abbrev pub invariant-loop-node : goal.invariant-loop-node
invariant-loop-node l = IsRead (held l.initial.reader) (map item_of (take l.node-index l.nodes)) (held l.reader) × Notes l.restriction l.reader.axioms.items
