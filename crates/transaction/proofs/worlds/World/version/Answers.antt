use Rattle.std.proofs.Common.{subst}
use Rattle.std.specs.Prelude.{Contains}
use Rattle.dl_base.specs.Clash.{IsConsistent}
use Rattle.dl_base.specs.declared.statements.Fact.{Fact}
use Rattle.dl_base.specs.Histories.{in_force}
use Rattle.dl_base.specs.Ontologies.{Knows}
use Rattle.transaction.specs.Worlds.{State}
use Rattle.transaction.proofs.worlds.World.version.Goals as goal

pub returns-clause-consistent : goal.returns-clause-consistent
returns-clause-consistent g c =
    subst (λ (s : State). IsConsistent (in_force s.opening s.entries).axioms (g.V.FactSet.facts c.version-version.result.now)) c.self.view_is c.version-version.ensures.consistent

pub returns-clause-known : goal.returns-clause-known
returns-clause-known g c =
    subst (λ (s : State). (f : Fact) → Contains (g.V.FactSet.facts c.version-version.result.now) f → Knows (in_force s.opening s.entries) f) c.self.view_is c.version-version.ensures.known
