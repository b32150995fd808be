use Rattle.std.proofs.Common.{List, map, sym, ◌∙◌, ap, subst}
use Rattle.std.specs.Prelude.{All}
use Rattle.std.specs.Arc.{arc_value}
use Rattle.dl_base.specs.declared.requests.Entry.{Entry}
use Rattle.dl_base.specs.Histories.{in_force_at}
use Rattle.dl_base.specs.Ontologies.{Theory}
use Rattle.dl_base.specs.Staleness.{IsStale}
use Rattle.dl_base.specs.Transactions.{IsWell}
use Rattle.serial_history.specs.States.{Seen}
use Rattle.serial_history.specs.Stopping.{AreSoundAfter}
use Rattle.serial_history.proofs.SoundLaws.{sound_after}
use Rattle.serial_history.proofs.histories.History.first_met.Goals as goal

pub validate-requires-clause-well : goal.validate-requires-clause-well
validate-requires-clause-well g c =
    let base = c.args.parts.now.base in
    let force = c.conflicts.ensures ∙ c.deref.ensures ∙ c.rules_at-rules.ensures ∙ ap (λ (s : Seen). in_force_at s.opening s.entries base) c.self.view_is in
    subst (λ (t : Theory). All (IsWell t.axioms) c.args.parts.now.recorded) (sym force) c.requires.asked.well

pub validate-requires-clause-sound : goal.validate-requires-clause-sound
validate-requires-clause-sound g c =
    let w = c.self.inside in
    let base = c.args.parts.now.base in
    subst (λ (t : Theory). AreSoundAfter t.axioms (map arc_value c.as_slice.result.now) base) (sym (c.conflicts.ensures ∙ c.deref.ensures ∙ c.rules_at-rules.ensures))
    (subst (λ (es : List Entry). AreSoundAfter (in_force_at w.log.opening w.log.entries base).axioms es base) (sym c.as_slice.ensures)
    (sound_after w.log.opening (g.V.FactSet.facts w.opening) w.log.entries (g.V.FactSet.facts w.version) c.self.invariant.legal c.self.invariant.stands base))

pub returns-clause-fresh : goal.returns-clause-fresh
returns-clause-fresh g c h =
    let w = c.self.inside in
    let base = c.args.parts.now.base in
    let requests = c.args.parts.now.recorded in
    subst (λ (s : Seen). ¬ IsStale (in_force_at s.opening s.entries base).axioms s.entries base requests) c.self.view_is
    (subst (λ (t : Theory). ¬ IsStale t.axioms w.log.entries base requests) (c.conflicts.ensures ∙ c.deref.ensures ∙ c.rules_at-rules.ensures)
    (subst (λ (es : List Entry). ¬ IsStale c.conflicts.result.now.axioms es base requests) c.as_slice.ensures (c.validate.ensures.fresh.0 h)))
