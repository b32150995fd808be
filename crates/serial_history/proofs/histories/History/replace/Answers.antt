use Rattle.std.proofs.Common.{sym, ◌∙◌, subst}
use Rattle.std.specs.Arc.{arc_value}
use Rattle.dl_base.specs.Clash.{IsConsistent}
use Rattle.dl_base.specs.Histories.{IsVersion, in_force}
use Rattle.dl_base.specs.Ontologies.{Theory, Extends, Knows}
use Rattle.dl_base.proofs.HistoryLaws.{version_is_one}
use Rattle.dl_base.proofs.OntologyLaws.{fact_stays}
use Rattle.dl_base.proofs.VersionLaws.{in_order}
use Rattle.serial_history.specs.States.{Seen}
use Rattle.serial_history.proofs.histories.History.replace.Goals as goal

pub contradiction-requires : goal.contradiction-requires
contradiction-requires g c f m =
    let w = c.self.inside in
    let known = (in_order w.log.opening (g.V.FactSet.facts w.opening) w.log.entries c.self.invariant.legal).1 (g.V.FactSet.facts w.version) c.self.invariant.stands f m in
    let extends = subst (λ (s : Seen). Extends (arc_value c.args.ontology) (in_force s.opening s.entries)) (sym c.self.view_is) c.requires.extends in
    subst (λ (t : Theory). Knows t f) (sym (c.deref.ensures ∙ c.requires.compiled)) (fact_stays (arc_value c.args.ontology) (in_force w.log.opening w.log.entries) extends f known)

pub put_in_force-requires-clause-consistent : goal.put_in_force-requires-clause-consistent
put_in_force-requires-clause-consistent g c version is =
    let w = c.self.inside in
    let stands = subst (λ (s : Seen). IsVersion s.facts s.entries version) (sym c.self.view_is) is in
    let same = version_is_one (g.V.FactSet.facts w.opening) w.log.entries (g.V.FactSet.facts w.version) version c.self.invariant.stands stands in
    subst (λ (t : Theory). IsConsistent t.axioms version) (c.deref.ensures ∙ c.requires.compiled) (subst (IsConsistent c.deref.result.now.axioms) same c.in_default.ensures)
