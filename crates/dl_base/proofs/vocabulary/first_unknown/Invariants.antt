use Rattle.std.proofs.Common.{take}
use Rattle.std.specs.Prelude.{All}
use Rattle.dl_base.specs.Ontologies.{KnowsAxiom}
use Rattle.dl_base.specs.Vocabularies.{bare}
use Rattle.dl_base.proofs.vocabulary.first_unknown.Given as goal

abbrev pub invariant-loop-place : goal.invariant-loop-place
invariant-loop-place l = All (KnowsAxiom (bare l.terms)) (take l.place l.axioms)
