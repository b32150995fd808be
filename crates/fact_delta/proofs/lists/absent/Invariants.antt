use Rattle.std.proofs.Common.{take}
use Rattle.std.specs.Prelude.{Contains}
use Rattle.dl_base.specs.Picks.{Picks}
use Rattle.fact_delta.proofs.lists.absent.Given as goal

abbrev pub invariant-loop-fact : goal.invariant-loop-fact
invariant-loop-fact l = Picks (λ f. ¬ Contains l.others f) (take l.fact-index l.facts) l.absent.items
