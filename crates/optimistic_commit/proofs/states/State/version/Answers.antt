use Rattle.std.proofs.Common.{subst}
use Rattle.dl_base.specs.Clash.{IsConsistent}
use Rattle.dl_base.specs.Histories.{in_force}
use Rattle.serial_history.specs.States.{Seen}
use Rattle.optimistic_commit.proofs.states.State.version.Goals as goal

pub returns-clause-consistent : goal.returns-clause-consistent
returns-clause-consistent g c =
    subst (λ (s : Seen). IsConsistent (in_force s.opening s.entries).axioms (g.V.FactSet.facts c.version.result.now)) c.self.view_is c.version.ensures.consistent
