use Rattle.std.proofs.Common.{rules, ◌<◌, ◌++◌, ◌∷◌, [], List, length, refl, sym, ◌∙◌, ap, subst}
use Rattle.std.specs.Arc.{arc_value}
use Rattle.std.specs.Prelude.{All, IfErr}
use Rattle.dl_base.specs.Updates.{IsWellFormed}
use Rattle.update_engine.specs.Stepping.{IsRefusal}
use Rattle.dl_base.specs.Clash.{IsConsistent}
use Rattle.dl_base.specs.declared.requests.Request.{Request}
use Rattle.dl_base.specs.declared.requests.Request.TheVariants.{Change}
use Rattle.dl_base.specs.Ontologies.{Theory, Knows}
use Rattle.fact_delta.specs.Deltas.{Over, standing, moved_over}
use Rattle.transaction.specs.Effects.{IsEffect}
use Rattle.transaction.specs.Serving.{Open, IsOpen, IsServed}
use Rattle.transaction.proofs.ServeLaws.{open_changed, serves_change, served_as, effect_at}
use Rattle.transaction.proofs.transactions.Transaction.make.Goals as goal

pub effect_of-requires-clause-consistent : goal.effect_of-requires-clause-consistent
effect_of-requires-clause-consistent g c = subst (λ (t : Theory). IsConsistent t.axioms (standing c.self.inside.stored)) (sym c.deref.ensures) c.self.invariant.consistent

pub invariant_of-self-2 : goal.invariant_of-self-2
invariant_of-self-2 g c =
    let w = c.self.inside in
    let theory = arc_value w.rules in
    let base = w.stored.base in
    let stored = standing w.stored in
    let room : length w.recorded < 10000 = subst (λ (o : Open). length o.requests < 10000) (sym c.self.view_is) c.requires.room in
    let known : All (Knows theory) c.args.inserts.now × All (Knows theory) c.args.deletes.now = subst (λ (o : Open). All (Knows o.ontology) c.args.inserts.now × All (Knows o.ontology) c.args.deletes.now) (sym c.self.view_is) c.requires.known in
    let e = c.in_ok-effect.effect in
    let effect : IsEffect theory.axioms w.stored w.put.items w.taken.items c.args.inserts.now c.args.deletes.now e = effect_at theory w.stored w.put.items w.taken.items c.args.inserts.now c.args.deletes.now e c.deref.result.now c.as_slice.result.now c.as_slice-2.result.now
    c.deref.ensures c.as_slice.ensures.value c.as_slice-2.ensures.value c.in_ok-effect.ensures.ok in
    let made = open_changed theory base w.recorded stored w.put.items w.taken.items c.self.invariant room w.stored refl c.args.inserts.now c.args.deletes.now e known effect in
    subst (λ (rs : List Request). IsOpen theory c.take.new.self.base rs (standing c.take.new.self) e.put.items e.taken.items) (sym c.in_ok-keep_change.ensures.ok)
    (subst (λ (o : Over). IsOpen theory o.base (w.recorded ++ Change c.args.inserts.now c.args.deletes.now ∷ []) (standing o) e.put.items e.taken.items) (sym c.take.ensures) made)

pub returns-clause-ok : goal.returns-clause-ok
returns-clause-ok g c =
    let w = c.self.inside in
    let theory = arc_value w.rules in
    let base = w.stored.base in
    let stored = standing w.stored in
    let room : length w.recorded < 10000 = subst (λ (o : Open). length o.requests < 10000) (sym c.self.view_is) c.requires.room in
    let known : All (Knows theory) c.args.inserts.now × All (Knows theory) c.args.deletes.now = subst (λ (o : Open). All (Knows o.ontology) c.args.inserts.now × All (Knows o.ontology) c.args.deletes.now) (sym c.self.view_is) c.requires.known in
    let e = c.in_ok-effect.effect in
    let change = Change c.args.inserts.now c.args.deletes.now in
    let effect : IsEffect theory.axioms w.stored w.put.items w.taken.items c.args.inserts.now c.args.deletes.now e = effect_at theory w.stored w.put.items w.taken.items c.args.inserts.now c.args.deletes.now e c.deref.result.now c.as_slice.result.now c.as_slice-2.result.now
    c.deref.ensures c.as_slice.ensures.value c.as_slice-2.ensures.value c.in_ok-effect.ensures.ok in
    let next = standing (moved_over w.stored e.moved) in
    let serves = serves_change theory base w.recorded stored w.put.items w.taken.items c.self.invariant room w.stored refl c.args.inserts.now c.args.deletes.now e known effect in
    subst (λ (o : Over). IsServed c.args.self.now change e.lost.items (record { ontology = theory; number = w.base; base = o.base; requests = c.keep_change.new.recorded; stored = standing o })) (sym c.take.ensures)
    (served_as theory base w.recorded stored w.put.items w.taken.items c.self.invariant room w.base c.args.self.now c.self.view_is change e.lost.items next c.keep_change.new.recorded c.in_ok-keep_change.ensures.ok effect.well serves)

pub returns-in_err-effect-clause-named : goal.returns-in_err-effect-clause-named
returns-in_err-effect-clause-named g c =
    let given : IfErr c.from_residual.result (IsRefusal c.deref.result.now.axioms c.args.inserts.now c.args.deletes.now) = search rules in
    subst (λ (t : Theory). IfErr c.from_residual.result (IsRefusal t.axioms c.args.inserts.now c.args.deletes.now)) (c.deref.ensures ∙ ap (λ (o : Open). o.ontology) c.self.view_is) given

pub returns-in_err-keep_change-clause-named : goal.returns-in_err-keep_change-clause-named
returns-in_err-keep_change-clause-named g c =
    let well : IsWellFormed c.args.self.now.ontology.axioms c.args.inserts.now c.args.deletes.now = subst (λ (t : Theory). IsWellFormed t.axioms c.args.inserts.now c.args.deletes.now) (c.deref.ensures ∙ ap (λ (o : Open). o.ontology) c.self.view_is) c.in_ok-effect.ensures.ok.well in
    search (rules, well)
