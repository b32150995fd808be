use Rattle.std.proofs.Common.{[], refl, sym, ◌∙◌, subst}
use Rattle.std.specs.Arc.{arc_value}
use Rattle.dl_base.specs.Validity.{IsOntology}
use Rattle.serial_history.specs.States.{Logged, IsKept}
use Rattle.serial_history.proofs.StartLaws.{kept_start}
use Rattle.serial_history.proofs.histories.History.start.Goals as goal

pub invariant_of-result : goal.invariant_of-result
invariant_of-result g c =
    let facts = g.V.FactSet.facts in
    let layers = g.V.Versions.layers in
    let version = c.in_ok-version.version in
    subst (λ (l : Logged). IsKept l.opening (facts c.args.opening) c.args.limit l.entries (facts version) (layers version)) (sym c.new.ensures)
    (kept_start (arc_value c.args.rules) (facts c.args.opening) c.args.limit [] (facts version) (layers version) refl c.in_ok-version.ensures.same (c.in_ok-version.ensures.layers ∙ c.requires.one)
    (subst IsOntology (c.ontology.ensures ∙ c.deref.ensures) c.terms-terms.ensures.sound) c.count-facts.ensures.sorted c.requires.known c.requires.consistent)
