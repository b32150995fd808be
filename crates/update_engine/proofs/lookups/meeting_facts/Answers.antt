use Rattle.std.proofs.Common.{length, subst}
use Rattle.std.specs.Prelude.{Contains}
use Rattle.dl_base.specs.declared.statements.Fact.{Fact}
use Rattle.dl_base.proofs.ClosureLaws.{member_in_closure}
use Rattle.update_engine.specs.Lookups.{IsSound}
use Rattle.update_engine.proofs.LookupLaws.{found_is_removed, found_counted}
use Rattle.update_engine.proofs.StepLaws.{entailed_alone}
use Rattle.update_engine.proofs.lookups.meeting_facts.Goals as goal

pub returns-in_err-met-clause-counted : goal.returns-in_err-met-clause-counted
returns-in_err-met-clause-counted g c =
    let theory = c.args.rules.now in
    let held = g.S.FactSet.facts c.args.set.now in
    let inserts = c.args.inserts.now in
    let deletes = c.args.deletes.now in
    let sound : (f : Fact) → Contains held f → IsSound theory f = λ f m. (c.requires.known f m, entailed_alone theory.axioms held inserts deletes c.requires.consistent c.requires.well f (member_in_closure theory.axioms held f m)) in
    found_counted theory held inserts deletes c.in_ok-patterns.patterns.items sound c.in_ok-patterns.ensures.asks _ _ _ c.in_ok-patterns.ensures.few (rw c.as_slice.ensures.value at c.found.ensures.counted)

pub returns-clause-counted : goal.returns-clause-counted
returns-clause-counted g c =
    let theory = c.args.rules.now in
    let held = g.S.FactSet.facts c.args.set.now in
    let inserts = c.args.inserts.now in
    let deletes = c.args.deletes.now in
    let sound : (f : Fact) → Contains held f → IsSound theory f = λ f m. (c.requires.known f m, entailed_alone theory.axioms held inserts deletes c.requires.consistent c.requires.well f (member_in_closure theory.axioms held f m)) in
    found_counted theory held inserts deletes c.in_ok-patterns.patterns.items sound c.in_ok-patterns.ensures.asks _ _ _ c.in_ok-patterns.ensures.few (rw c.as_slice.ensures.value at c.found.ensures.counted)

pub returns-clause-met : goal.returns-clause-met
returns-clause-met g c =
    let theory = c.args.rules.now in
    let held = g.S.FactSet.facts c.args.set.now in
    let inserts = c.args.inserts.now in
    let deletes = c.args.deletes.now in
    let sound : (f : Fact) → Contains held f → IsSound theory f = λ f m. (c.requires.known f m, entailed_alone theory.axioms held inserts deletes c.requires.consistent c.requires.well f (member_in_closure theory.axioms held f m)) in
    found_is_removed theory held inserts deletes c.in_ok-patterns.patterns.items sound c.in_ok-patterns.ensures.asks c.in_ok-met.met.items (rw c.as_slice.ensures.value at c.in_ok-met.ensures.found)
