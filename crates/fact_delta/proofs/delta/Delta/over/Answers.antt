use Rattle.fact_delta.proofs.StandingLaws.{nothing_yet}
use Rattle.fact_delta.proofs.delta.Delta.over.Goals as goal

pub invariant_of-result : goal.invariant_of-result
invariant_of-result g c = nothing_yet (g.S.FactSet.facts c.args.base) c.new.result.items c.new-2.result.items c.requires.sorted c.new.ensures.items c.new-2.ensures.items
