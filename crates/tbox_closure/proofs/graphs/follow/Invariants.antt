use Rattle.tbox_closure.specs.Graphs.{AreAmong, AreBegun, AreSound, AreAlike}
use Rattle.tbox_closure.proofs.graphs.follow.Given as goal

abbrev pub invariant-loop-step : goal.invariant-loop-step
invariant-loop-step l = record {
  among : AreAmong l.edges l.few.items;
  begun : AreBegun l.rows;
  sound : AreSound l.few.items l.rows;
  alike : AreAlike l.rows;
}
