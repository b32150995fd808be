use Rattle.std.proofs.Common.{take}
use Rattle.fact_delta.specs.Deltas.{AreMarked}
use Rattle.fact_delta.proofs.lists.all_marked.Given as goal

abbrev pub invariant-loop-change : goal.invariant-loop-change
invariant-loop-change l = AreMarked (take l.change-index l.changed) l.mark l.facts.items
