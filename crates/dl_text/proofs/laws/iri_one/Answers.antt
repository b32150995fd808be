use Rattle.dl_text.proofs.ReadingLaws.{iri_one}
use Rattle.dl_text.proofs.laws.iri_one.Goals as goal

pub returns : goal.returns
returns c = iri_one
