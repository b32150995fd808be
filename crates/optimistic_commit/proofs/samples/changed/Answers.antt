use Rattle.std.proofs.Common.{List, sym, ◌∙◌, subst}
use Rattle.dl_base.specs.Clash.{IsConsistent}
use Rattle.dl_base.specs.Histories.{in_force}
use Rattle.dl_base.specs.Ontologies.{Theory}
use Rattle.dl_base.specs.Updates.{Lists, IsStored}
use Rattle.dl_base.specs.declared.statements.Fact.{Fact}
use Rattle.read_patterns.specs.declared.parts.Parts.{Parts}
use Rattle.update_engine.specs.Stepping.{IsStep}
use Rattle.optimistic_commit.proofs.ReadyLaws.{effects_of_one, ready_of_one}
use Rattle.optimistic_commit.proofs.samples.changed.Goals as goal

pub counted-requires-clause-consistent : goal.counted-requires-clause-consistent
counted-requires-clause-consistent c =
    subst (λ (t : Theory). IsConsistent t.axioms c.version-stored.result.now) (sym (c.deref.ensures ∙ c.rules.ensures)) c.version-stored.ensures.consistent

pub returns : goal.returns
returns c =
    let s = c.args.state.now in
    let theory : Theory = in_force s.opening s.entries in
    let version = c.version-stored.result.now in
    let inserts = c.args.inserts.items in
    let deletes = c.args.deletes.items in
    let made = c.in_ok-made.made in
    let is : IsStep theory.axioms version inserts deletes made =
    subst (λ (t : Theory). IsStep t.axioms version inserts deletes made) (c.deref.ensures ∙ c.rules.ensures)
    (subst (λ (fs : List Fact). IsStep c.deref.result.now.axioms version fs deletes made) c.as_slice.ensures.value
    (subst (λ (fs : List Fact). IsStep c.deref.result.now.axioms version c.as_slice.result.now fs made) c.as_slice-2.ensures.value c.in_ok-made.ensures)) in
    let there = subst (λ (fs : List Fact). IsStep theory.axioms fs inserts deletes made) (sym c.as_slice-3.ensures.same) is in
    let after = subst (λ (fs : List Fact). Lists (IsStored theory.axioms fs inserts deletes) c.in_ok-_after._after.items) c.as_slice-3.ensures.same (c.in_ok-_after.ensures theory.axioms inserts deletes there) in
    let parts : Parts = record { base = c.length.result; recorded = c.in_ok-recorded.recorded; added = made.put; removed = made.removed } in
    ready_of_one s version c.version-stored.ensures.stands inserts deletes c.requires.inserts c.requires.deletes is.well_formed parts c.length.ensures.count c.in_ok-recorded.ensures
    (effects_of_one theory.axioms version inserts deletes c.in_ok-_after._after.items made is after)
