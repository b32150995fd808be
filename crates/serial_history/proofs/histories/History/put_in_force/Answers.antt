use Rattle.std.proofs.Common.{◌<◌, List, Some, length, refl, sym, ◌∙◌, subst}
use Rattle.std.specs.Arc.{arc_value}
use Rattle.dl_base.specs.declared.requests.Entry.{Entry}
use Rattle.dl_base.specs.Clash.{IsConsistent}
use Rattle.dl_base.specs.Commits as outcome
use Rattle.dl_base.specs.Histories.{IsVersion, in_force}
use Rattle.dl_base.specs.Ontologies.{Extends}
use Rattle.dl_base.specs.declared.statements.Fact.{Fact}
use Rattle.serial_history.specs.Committing.{Continues}
use Rattle.serial_history.specs.Replacing.{HasReplaced}
use Rattle.serial_history.specs.States.{Seen}
use Rattle.serial_history.proofs.ReplaceSteps.{keeps, replaced, continues}
use Rattle.serial_history.proofs.histories.History.put_in_force.Goals as goal

pub invariant_of-self : goal.invariant_of-self
invariant_of-self g c =
    let w = c.self.inside in
    let theory = arc_value c.args.ontology in
    let back = sym c.self.view_is in
    let room = subst (λ (s : Seen). length s.entries < s.limit) back c.requires.room in
    let extends = subst (λ (s : Seen). Extends theory (in_force s.opening s.entries)) back c.requires.extends in
    let consistent = (subst (λ (s : Seen). (version : List Fact) → IsVersion s.facts s.entries version → IsConsistent theory.axioms version) back c.requires.consistent) (g.V.FactSet.facts w.version) c.self.invariant.stands in
    let e : Entry = record { editor = c.args.editor; number = c.count_of.result; requests = c.of.result; changed = c.of-2.result; replaced = Some c.args.ontology } in
    keeps w.log.opening (g.V.FactSet.facts w.opening) w.limit w.log.entries (g.V.FactSet.facts w.version) (g.V.Versions.layers w.version) c.self.invariant c.args.editor theory room c.requires.ontology extends consistent
    (g.V.FactSet.facts c.in_ok-next.next) (g.V.Versions.layers c.in_ok-next.next) c.in_ok-next.ensures.changed c.in_ok-next.ensures.sorted c.in_ok-next.ensures.trimmed
    e (record { editor_is = refl; number_is = c.count_of.ensures; silent = (c.of.ensures ∙ c.new.ensures.items, c.of-2.ensures ∙ c.new-2.ensures.items); replaces = refl }) c.push.new.self c.in-Ok.ensures.ok

pub returns-in-Ok-clause-replaced : goal.returns-in-Ok-clause-replaced
returns-in-Ok-clause-replaced g c =
    let w = c.self.inside in
    let theory = arc_value c.args.ontology in
    let back = sym c.self.view_is in
    let room = subst (λ (s : Seen). length s.entries < s.limit) back c.requires.room in
    let extends = subst (λ (s : Seen). Extends theory (in_force s.opening s.entries)) back c.requires.extends in
    let consistent = (subst (λ (s : Seen). (version : List Fact) → IsVersion s.facts s.entries version → IsConsistent theory.axioms version) back c.requires.consistent) (g.V.FactSet.facts w.version) c.self.invariant.stands in
    let e : Entry = record { editor = c.args.editor; number = c.count_of.result; requests = c.of.result; changed = c.of-2.result; replaced = Some c.args.ontology } in
    let after : Seen = record { opening = c.push.new.self.opening; facts = g.V.FactSet.facts w.opening; limit = w.limit; entries = c.push.new.self.entries; layers = g.V.Versions.layers c.in_ok-next.next } in
    subst (λ (s : Seen). HasReplaced s c.args.editor theory (outcome.InForce c.len.result) after) c.self.view_is
    (replaced w.log.opening (g.V.FactSet.facts w.opening) w.limit w.log.entries (g.V.FactSet.facts w.version) (g.V.Versions.layers w.version) c.self.invariant c.args.editor theory room c.requires.ontology extends consistent
    (g.V.FactSet.facts c.in_ok-next.next) (g.V.Versions.layers c.in_ok-next.next) c.in_ok-next.ensures.changed c.in_ok-next.ensures.sorted c.in_ok-next.ensures.trimmed
    e (record { editor_is = refl; number_is = c.count_of.ensures; silent = (c.of.ensures ∙ c.new.ensures.items, c.of-2.ensures ∙ c.new-2.ensures.items); replaces = refl }) c.push.new.self c.in-Ok.ensures.ok c.len.result c.len.ensures)

pub returns-in-Ok-clause-continues : goal.returns-in-Ok-clause-continues
returns-in-Ok-clause-continues g c =
    let w = c.self.inside in
    let theory = arc_value c.args.ontology in
    let back = sym c.self.view_is in
    let room = subst (λ (s : Seen). length s.entries < s.limit) back c.requires.room in
    let extends = subst (λ (s : Seen). Extends theory (in_force s.opening s.entries)) back c.requires.extends in
    let consistent = (subst (λ (s : Seen). (version : List Fact) → IsVersion s.facts s.entries version → IsConsistent theory.axioms version) back c.requires.consistent) (g.V.FactSet.facts w.version) c.self.invariant.stands in
    let e : Entry = record { editor = c.args.editor; number = c.count_of.result; requests = c.of.result; changed = c.of-2.result; replaced = Some c.args.ontology } in
    let after : Seen = record { opening = c.push.new.self.opening; facts = g.V.FactSet.facts w.opening; limit = w.limit; entries = c.push.new.self.entries; layers = g.V.Versions.layers c.in_ok-next.next } in
    subst (λ (s : Seen). Continues s after) c.self.view_is
    (continues w.log.opening (g.V.FactSet.facts w.opening) w.limit w.log.entries (g.V.FactSet.facts w.version) (g.V.Versions.layers w.version) c.self.invariant c.args.editor theory room c.requires.ontology extends consistent
    (g.V.FactSet.facts c.in_ok-next.next) (g.V.Versions.layers c.in_ok-next.next) c.in_ok-next.ensures.changed c.in_ok-next.ensures.sorted c.in_ok-next.ensures.trimmed
    e (record { editor_is = refl; number_is = c.count_of.ensures; silent = (c.of.ensures ∙ c.new.ensures.items, c.of-2.ensures ∙ c.new-2.ensures.items); replaces = refl }) c.push.new.self c.in-Ok.ensures.ok)
