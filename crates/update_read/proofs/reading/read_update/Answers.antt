use Rattle.update_read.proofs.KnownLaws.{text_known}
use Rattle.update_read.proofs.reading.read_update.Goals as goal

pub returns-in-None-clause-known : goal.returns-in-None-clause-known
returns-in-None-clause-known c = text_known c.args.ontology.now c.args.bytes.now c.read.result c.read.ensures
