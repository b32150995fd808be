use Rattle.dl_text.proofs.IriCharacters.{iri_characters}
use Rattle.dl_text.proofs.laws.iri_characters.Goals as goal

pub returns : goal.returns
returns c = iri_characters
