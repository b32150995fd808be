use Rattle.std.proofs.Common.{take}
use Rattle.dl_base.specs.Ontologies.{AreNamedOnce}
use Rattle.dl_base.specs.Vocabularies.{AreNumbered, bare}
use Rattle.dl_base.proofs.vocabulary.numbered.Given as goal

abbrev pub invariant-loop-place : goal.invariant-loop-place
invariant-loop-place l = AreNumbered (take l.place l.terms) l.names.keys × AreNamedOnce (bare (take l.place l.terms))
