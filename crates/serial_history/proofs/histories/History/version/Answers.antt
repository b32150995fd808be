use Rattle.std.proofs.Common.{subst}
use Rattle.dl_base.specs.Clash.{IsConsistent}
use Rattle.dl_base.specs.Histories.{in_force}
use Rattle.dl_base.specs.Ontologies.{Knows}
use Rattle.dl_base.proofs.HistoryLaws.{legal_is_consistent}
use Rattle.dl_base.proofs.VersionLaws.{in_order}
use Rattle.serial_history.specs.States.{Seen}
use Rattle.serial_history.proofs.histories.History.version.Goals as goal

pub returns-clause-consistent : goal.returns-clause-consistent
returns-clause-consistent g c =
    let w = c.self.inside in
    subst (λ (s : Seen). IsConsistent (in_force s.opening s.entries).axioms (g.V.FactSet.facts w.version)) c.self.view_is
    (legal_is_consistent w.log.opening (g.V.FactSet.facts w.opening) w.log.entries c.self.invariant.legal (g.V.FactSet.facts w.version) c.self.invariant.stands)

pub returns-clause-known : goal.returns-clause-known
returns-clause-known g c f m =
    let w = c.self.inside in
    subst (λ (s : Seen). Knows (in_force s.opening s.entries) f) c.self.view_is
    ((in_order w.log.opening (g.V.FactSet.facts w.opening) w.log.entries c.self.invariant.legal).1 (g.V.FactSet.facts w.version) c.self.invariant.stands f m)
