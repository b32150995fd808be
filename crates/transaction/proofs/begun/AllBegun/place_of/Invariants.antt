use Rattle.transaction.specs.Holding.{NoneBefore}
use Rattle.transaction.proofs.begun.AllBegun.place_of.Given as goal

abbrev pub invariant-loop-place : goal.invariant-loop-place
invariant-loop-place g l = NoneBefore l.editor l.self-inside.items.items l.place
