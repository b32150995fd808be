use Rattle.ntriples.proofs.MeaningLaws.{no_literal}
use Rattle.ntriples.proofs.meaning.literal.Goals as goal

pub returns-in-Err : goal.returns-in-Err
returns-in-Err c = no_literal c.args.text.now c.args.datatype.now c.args.tag.now c.in-Err.fault c.in-Err.ensures
