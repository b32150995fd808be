use Rattle.std.proofs.Common.{take}
use Rattle.std.specs.Prelude.{Contains}
use Rattle.dl_base.specs.Ontologies.{Knows}
use Rattle.dl_base.specs.declared.statements.Fact.{Fact}
use Rattle.instance_query.proofs.tests.knows_all.Given as goal

abbrev pub invariant-loop-fact : goal.invariant-loop-fact
invariant-loop-fact l = (f : Fact) → Contains (take l.fact-index l.facts) f → Knows l.ontology f
