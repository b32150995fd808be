use Rattle.std.proofs.Common.{◌≡◌, length, take}
use Rattle.std.specs.Prelude.{filter}
use Rattle.serial_history.proofs.EntryLaws.{is_of}
use Rattle.serial_history.proofs.log.Log.count_of.Given as goal

abbrev pub invariant-loop-entry : goal.invariant-loop-entry
invariant-loop-entry l = l.count ≡ length (filter (is_of l.editor) (take l.entry-index l.entry-items))
