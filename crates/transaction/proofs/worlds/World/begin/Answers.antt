use Rattle.std.proofs.Common.{◌≡◌, List, length, refl, sym, ◌∙◌, ap, subst}
use Rattle.std.specs.Arc.{arc_value}
use Rattle.dl_base.specs.Clash.{IsConsistent}
use Rattle.dl_base.specs.declared.statements.Fact.{Fact}
use Rattle.dl_base.specs.Histories.{IsVersion, in_force}
use Rattle.dl_base.specs.Ontologies.{Theory}
use Rattle.transaction.specs.Holding.{AllBeganIn}
use Rattle.transaction.specs.Serving.{Open}
use Rattle.transaction.specs.Worlds.{State, HasOne, StepsTo}
use Rattle.transaction.specs.declared.events.Event.TheVariants as event
use Rattle.transaction.specs.declared.events.Reply.TheVariants as reply
use Rattle.transaction.proofs.WorldLaws.{state_of, own, has, begins, began_begun}
use Rattle.transaction.proofs.worlds.World.begin.Goals as goal

pub returns-in-Some-clause-ok : goal.returns-in-Some-clause-ok
returns-in-Some-clause-ok g c =
    let w = c.self.inside in
    let one : HasOne (state_of w.history w.begun) c.args.editor = (_, has w.history w.begun c.self.invariant c.args.editor c.in-Some.field-0 c.in-Some.ensures.found) in
    (subst (λ (s : State). HasOne s c.args.editor) c.self.view_is one, refl)

pub at-transaction-requires-clause-consistent : goal.at-transaction-requires-clause-consistent
at-transaction-requires-clause-consistent g c =
    subst (λ (t : Theory). IsConsistent t.axioms (g.V.FactSet.facts c.in_ok-version.version)) (sym (c.in_ok-rules.ensures ∙ c.rules.ensures))
    (subst (λ (fs : List Fact). IsConsistent (in_force c.self.inside.history.opening c.self.inside.history.entries).axioms fs) (sym c.in_ok-version.ensures.same) c.version.ensures.consistent)

pub invariant_of-self : goal.invariant_of-self
invariant_of-self g c = subst (AllBeganIn c.self.inside.history) (sym c.in_err-push.ensures.refused) c.self.invariant

pub invariant_of-self-2 : goal.invariant_of-self-2
invariant_of-self-2 g c =
    let w = c.self.inside in
    let o : Open = c.at-transaction.result in
    let is = c.at-transaction.ensures in
    let ontology = ap (λ (x : Open). x.ontology) is ∙ c.in_ok-rules.ensures ∙ c.rules.ensures in
    let number = ap (λ (x : Open). x.number) is ∙ c.length-base.ensures.count in
    let base : o.base ≡ g.V.FactSet.facts c.version.result.now = ap (λ (x : Open). x.base) is ∙ c.in_ok-version.ensures.same in
    let version = subst (λ (fs : List Fact). IsVersion w.history.facts w.history.entries fs) (sym base) c.version.ensures.stands in
    began_begun w.history w.begun c.self.invariant c.args.editor (c.in_default.ensures.none refl) o ontology number version (ap (λ (x : Open). x.requests) is) c.push.new.self c.in_ok-push.ensures.ok

pub returns-clause-ok : goal.returns-clause-ok
returns-clause-ok g c =
    let w = c.self.inside in
    let o : Open = c.at-transaction.result in
    let is = c.at-transaction.ensures in
    let ontology = ap (λ (x : Open). x.ontology) is ∙ c.in_ok-rules.ensures ∙ c.rules.ensures in
    let number = ap (λ (x : Open). x.number) is ∙ c.length-base.ensures.count in
    let base : o.base ≡ g.V.FactSet.facts c.version.result.now = ap (λ (x : Open). x.base) is ∙ c.in_ok-version.ensures.same in
    let version = subst (λ (fs : List Fact). IsVersion w.history.facts w.history.entries fs) (sym base) c.version.ensures.stands in
    subst (λ (s : State). StepsTo s (event.Begin c.args.editor) (reply.Begun c.length-base.result) (state_of w.history c.push.new.self)) c.self.view_is
    (begins w.history w.begun c.self.invariant c.args.editor (c.in_default.ensures.none refl) o ontology number version (ap (λ (x : Open). x.requests) is) c.push.new.self c.in_ok-push.ensures.ok c.length-base.result (sym (ap (λ (x : Open). x.number) is)))
