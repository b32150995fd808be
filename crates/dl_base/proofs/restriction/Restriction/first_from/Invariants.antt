use Rattle.std.proofs.Common.{take}
use Rattle.dl_base.specs.Validity.{IsValid}
use Rattle.dl_base.specs.Vocabularies.{Notes}
use Rattle.dl_base.proofs.restriction.Restriction.first_from.Given as goal

abbrev pub invariant-loop-place : goal.invariant-loop-place
invariant-loop-place l = Notes l.self (take l.place l.axioms) × IsValid (take l.place l.axioms)
