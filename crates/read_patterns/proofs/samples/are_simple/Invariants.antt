use Rattle.std.proofs.Common.{take}
use Rattle.std.specs.Prelude.{All}
use Rattle.dl_base.specs.Transactions.{IsWell}
use Rattle.read_patterns.proofs.samples.are_simple.Given as goal

abbrev pub invariant-loop-request : goal.invariant-loop-request
invariant-loop-request l = All (IsWell l.conflicts.axioms) (take l.request-index l.requests)
