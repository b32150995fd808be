use Rattle.std.proofs.Common.{take}
use Rattle.std.specs.Prelude.{◌↔◌, Contains}
use Rattle.dl_base.specs.declared.statements.Fact.{Fact}
use Rattle.dl_base.specs.Repeats.{IsOnce}
use Rattle.dl_base.proofs.repeats.once.Given as goal

abbrev pub invariant-loop-fact : goal.invariant-loop-fact
invariant-loop-fact l = IsOnce (take l.fact-index l.facts) l.kept.items × ((f : Fact) → Contains l.seen.keys f ↔ Contains (take l.fact-index l.facts) f)
