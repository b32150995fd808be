use Rattle.serial_history.proofs.StopLaws.{NoneBefore}
use Rattle.serial_history.proofs.validating.first_met.Given as goal

abbrev pub invariant-loop-place : goal.invariant-loop-place
invariant-loop-place l = NoneBefore l.conflicts.axioms l.recorded l.changed l.place
