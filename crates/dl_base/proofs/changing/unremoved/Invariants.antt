use Rattle.std.proofs.Common.{take}
use Rattle.std.specs.Prelude.{Contains}
use Rattle.dl_base.specs.declared.statements.Fact.{Fact}
use Rattle.dl_base.specs.Picks.{Picks}
use Rattle.dl_base.specs.Changing.{removed}
use Rattle.dl_base.proofs.changing.unremoved.Given as goal

abbrev pub invariant-loop-fact : goal.invariant-loop-fact
invariant-loop-fact l = Picks (λ (f : Fact). ¬ Contains l.changed (removed f)) (take l.fact-index l.facts) l.left.items
