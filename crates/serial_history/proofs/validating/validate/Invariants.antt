use Rattle.std.proofs.Common.{◌+◌, map}
use Rattle.std.specs.Arc.{arc_value}
use Rattle.serial_history.proofs.ValidLaws.{NonePassed}
use Rattle.serial_history.proofs.validating.validate.Given as goal

abbrev pub invariant-loop-place : goal.invariant-loop-place
invariant-loop-place l = NonePassed l.conflicts.axioms (map arc_value l.entries) l.parts.base l.parts.recorded (l.place + 1)
