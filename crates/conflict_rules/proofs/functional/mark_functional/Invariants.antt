use Rattle.std.proofs.Common.{take}
use Rattle.conflict_rules.specs.Functional.{AreFunctional}
use Rattle.conflict_rules.proofs.functional.mark_functional.Given as goal

abbrev pub invariant-loop-it : goal.invariant-loop-it
invariant-loop-it l = AreFunctional l.kind (take l.it-index l.axioms) l.marks
