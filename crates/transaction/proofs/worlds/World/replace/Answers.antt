use Rattle.std.proofs.Common.{◌≡◌, Result, Ok, refl, sym, ◌∙◌, ap, subst}
use Rattle.std.specs.Arc.{arc_value}
use Rattle.std.specs.Prelude.{IfOk}
use Rattle.dl_base.specs.Commits.{Replaced}
use Rattle.dl_base.specs.Commits as outcome
use Rattle.dl_base.specs.declared.memory.OutOfMemory.{OutOfMemory}
use Rattle.serial_history.specs.Replacing.{HasReplaced, ReplacesBy}
use Rattle.serial_history.specs.States.{Seen}
use Rattle.serial_history.specs.declared.replacing.Replacing.{Replacing}
use Rattle.transaction.specs.Worlds.{State, HasOne, Replaces, StepsTo}
use Rattle.transaction.specs.declared.events.Event.TheVariants as event
use Rattle.transaction.specs.declared.events.Reply.{Reply}
use Rattle.transaction.proofs.WorldLaws.{state_of, has}
use Rattle.transaction.proofs.ReplaceLaws.{replaces, stays, began_answered}
use Rattle.transaction.proofs.worlds.World.replace.Goals as goal
use Rattle.transaction.proofs.worlds.World.replace.Goals.{in-Replaced, in-Full, in-Alone, in-Pair, in-OutOfMemory}

pub returns-in-Some-clause-ok : goal.returns-in-Some-clause-ok
returns-in-Some-clause-ok g c =
    let w = c.self.inside in
    let one : HasOne (state_of w.history w.begun) c.args.editor = (_, has w.history w.begun c.self.invariant c.args.editor c.in-Some.field-0 c.in-Some.ensures.found) in
    (subst (λ (s : State). HasOne s c.args.editor) c.self.view_is one, refl)

pub invariant_of-self : goal.invariant_of-self
invariant_of-self g c =
    let w = c.self.inside in
    began_answered w.history c.replace.new.self w.begun c.args.editor (arc_value c.args.ontology) c.replace.result c.self.invariant c.replace.ensures

pub returns-clause-ok : goal.returns-clause-ok
returns-clause-ok g c =
    let w = c.self.inside in
    let theory = arc_value c.args.ontology in
    let u : Seen = c.replace.new.self in
    let after : State = state_of u w.begun in
    let so = stays w.history u c.args.editor theory c.replace.result c.replace.ensures in
    let seen : (o : Replaced) → HasReplaced w.history c.args.editor theory o u → Replaces c.args.self.now c.args.editor theory o after = λ o h.
    subst (λ (s : State). Replaces s c.args.editor theory o after) c.self.view_is (replaces w.history w.begun c.args.editor theory u so (c.in_default.ensures.none refl) o h) in
    let Wanted : Result Reply OutOfMemory → Type 0 = λ r. IfOk r (λ answer. StepsTo c.args.self.now (event.Replace c.args.editor c.args.ontology) answer after) in
    let By : Replacing → Type 0 = λ r. ReplacesBy w.history c.args.editor theory r u in
    elim c.match-replace.branch [
      | in-Replaced x ↦
          let h = subst By x.in-Replaced.is c.replace.ensures in
          subst Wanted (sym x.result-is) (seen (outcome.InForce x.in-Replaced.number) h.0)
      | in-Full x ↦
          let h = subst By x.in-Full.is c.replace.ensures in
          subst Wanted (sym x.result-is) (seen outcome.NoRoom h.0, x.limit-in-Full.ensures ∙ so.2 ∙ ap (λ (s : State). s.limit) c.self.view_is)
      | in-Alone x ↦
          let h = subst By x.in-Alone.is c.replace.ensures in
          subst Wanted (sym x.result-is) (seen (outcome.Alone x.in-Alone.fact) h.0)
      | in-Pair x ↦
          let h = subst By x.in-Pair.is c.replace.ensures in
          subst Wanted (sym x.result-is) (seen (outcome.Pair x.in-Pair.first x.in-Pair.second) h.0)
      | in-OutOfMemory x ↦ subst Wanted (sym x.result-is) tt
    ]
