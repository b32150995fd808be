use Rattle.std.proofs.Common.{false, refl}
use Rattle.owl_read.specs.Literals.{undone}
use Rattle.owl_read.proofs.LiteralLaws.{value_found}
use Rattle.owl_read.proofs.ScopeLaws.{iri_forth, iri_back}
use Rattle.owl_read.proofs.UndoneLaws.{undone_is}
use Rattle.owl_read.proofs.laws.tests_agree.Goals as goal

pub returns-clause-iri : goal.returns-clause-iri
returns-clause-iri c text = (iri_forth text, iri_back text)

pub returns-clause-escapes : goal.returns-clause-escapes
returns-clause-escapes c raw text = undone_is raw text

pub returns-clause-value : goal.returns-clause-value
returns-clause-value c s line raw datatype tag value h = value_found s line raw (undone false raw) datatype tag refl value h
