use Rattle.std.proofs.Common.{take}
use Rattle.std.specs.Prelude.{Contains}
use Rattle.dl_base.specs.declared.statements.Fact.{Fact}
use Rattle.fact_delta.proofs.tests.has_all.Given as goal

abbrev pub invariant-loop-fact : goal.invariant-loop-fact
invariant-loop-fact l = (f : Fact) → Contains (take l.fact-index l.facts) f → Contains l.held f
