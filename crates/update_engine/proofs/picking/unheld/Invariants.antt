use Rattle.std.proofs.Common.{◌+◌, ◌≡◌}
use Rattle.std.proofs.Common.{take}
use Rattle.std.specs.Prelude.{Contains}
use Rattle.dl_base.specs.Picks.{Picks}
use Rattle.update_engine.proofs.picking.unheld.Given as goal

abbrev pub invariant-loop-fact : goal.invariant-loop-fact
invariant-loop-fact g l = record {
  found : Picks (λ f. ¬ Contains (g.S.FactSet.facts l.set) f) (take l.fact-index l.facts) l.picked.items;
  counted : l.steps ≡ l.fn.steps + l.fact-index;
}
