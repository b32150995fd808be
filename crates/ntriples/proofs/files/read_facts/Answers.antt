use Rattle.ntriples.proofs.MeaningLaws.{lines_known}
use Rattle.ntriples.proofs.files.read_facts.Goals as goal

pub returns-clause-known : goal.returns-clause-known
returns-clause-known c = lines_known c.args.ontology.now c.args.bytes.now c.read_lines.result c.read_lines.ensures
