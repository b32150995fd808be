use Rattle.std.proofs.Common.{◌⊎◌, ◌+◌, ◌≤◌, length, List, [], ◌∷◌, refl, subst, arith}
use Rattle.std.specs.Prelude.{Contains}
use Rattle.dl_base.specs.declared.statements.Fact.{Fact}
use Rattle.dl_base.specs.Derivation.{InClosure}
use Rattle.dl_base.specs.Picks.{Picks, Collects}
use Rattle.dl_base.specs.Updates.{Meets, IsRemoved}
use Rattle.update_engine.specs.Stepping.{FollowsFrom}
use Rattle.update_engine.proofs.BoundLaws.{found_within, step_within}
use Rattle.update_engine.proofs.StepLaws.{through, follow_all, in_old, come_is, step_is, entailed_alone}
use Rattle.update_engine.proofs.stepping.take_step.Goals as goal

pub followers-requires : goal.followers-requires
followers-requires g c f m = c.requires.known f ((c.in_ok-removed.ensures.met.each f).0 (subst (λ (fs : List Fact). Contains fs f) c.as_slice.ensures.value m)).0

pub meeting-requires-clause-alone : goal.meeting-requires-clause-alone
meeting-requires-clause-alone g c f m =
    let axioms = c.args.rules.now.axioms in
    let old = g.S.FactSet.facts c.args.set.now in
    let inserts = c.args.inserts.now in
    let deletes = c.args.deletes.now in
    let gone = c.in_ok-removed.removed.items in
    let removes = c.in_ok-removed.ensures.met in
    let entailed = c.in_ok-entailed.entailed.items in
    let raw = c.in_ok-followers.field-0.items in
    let follows = through (λ f. (x : Fact) × Contains gone x × InClosure axioms (x ∷ []) f) raw entailed c.in_ok-entailed.ensures.same
    (follow_all axioms gone raw (subst (λ (fs : List Fact). Collects (FollowsFrom axioms fs) (length fs) raw) c.as_slice.ensures.value c.in_ok-followers.ensures.follows)) in
    entailed_alone axioms old inserts deletes c.requires.consistent c.requires.well f
    (in_old axioms old inserts deletes c.requires.consistent c.requires.well gone entailed removes c.in_ok-entailed.ensures.sorted follows f (subst (λ (fs : List Fact). Contains fs f) c.as_slice-2.ensures.value m))

pub staying-requires-clause-alone : goal.staying-requires-clause-alone
staying-requires-clause-alone g c f m =
    let axioms = c.args.rules.now.axioms in
    let old = g.S.FactSet.facts c.args.set.now in
    let inserts = c.args.inserts.now in
    let deletes = c.args.deletes.now in
    let gone = c.in_ok-removed.removed.items in
    let removes = c.in_ok-removed.ensures.met in
    let entailed = c.in_ok-entailed.entailed.items in
    let raw = c.in_ok-followers.field-0.items in
    let follows = through (λ f. (x : Fact) × Contains gone x × InClosure axioms (x ∷ []) f) raw entailed c.in_ok-entailed.ensures.same
    (follow_all axioms gone raw (subst (λ (fs : List Fact). Collects (FollowsFrom axioms fs) (length fs) raw) c.as_slice.ensures.value c.in_ok-followers.ensures.follows)) in
    entailed_alone axioms old inserts deletes c.requires.consistent c.requires.well f
    (in_old axioms old inserts deletes c.requires.consistent c.requires.well gone entailed removes c.in_ok-entailed.ensures.sorted follows f (subst (λ (fs : List Fact). Contains fs f) c.as_slice-3.ensures.value m))

pub returns-in_err-removed-clause-counted : goal.returns-in_err-removed-clause-counted
returns-in_err-removed-clause-counted g c = found_within _ _ _ _ _ c.meeting_facts.ensures.counted

pub returns-in_err-followers-clause-counted : goal.returns-in_err-followers-clause-counted
returns-in_err-followers-clause-counted g c = found_within _ _ _ _ _ c.meeting_facts.ensures.counted

pub returns-in_err-entailed-clause-counted : goal.returns-in_err-entailed-clause-counted
returns-in_err-entailed-clause-counted g c = found_within _ _ _ _ _ c.meeting_facts.ensures.counted

pub returns-in_err-lost-clause-counted : goal.returns-in_err-lost-clause-counted
returns-in_err-lost-clause-counted g c = found_within _ _ _ _ _ c.meeting_facts.ensures.counted

pub returns-in_err-survivors-clause-counted : goal.returns-in_err-survivors-clause-counted
returns-in_err-survivors-clause-counted g c = found_within _ _ _ _ _ c.meeting_facts.ensures.counted

pub returns-in_err-with_copies-clause-counted : goal.returns-in_err-with_copies-clause-counted
returns-in_err-with_copies-clause-counted g c = found_within _ _ _ _ _ c.meeting_facts.ensures.counted

pub returns-in_err-put-clause-counted : goal.returns-in_err-put-clause-counted
returns-in_err-put-clause-counted g c = found_within _ _ _ _ _ c.meeting_facts.ensures.counted

pub returns-in_err-added-clause-counted : goal.returns-in_err-added-clause-counted
returns-in_err-added-clause-counted g c =
    let axioms = c.args.rules.now.axioms in
    let inserts = c.args.inserts.now in
    let deletes = c.args.deletes.now in
    let some : length inserts ≤ length inserts + length deletes = omega arith in
    step_within (IsRemoved axioms (g.S.FactSet.facts c.args.set.now) inserts deletes) (length c.args.rules.now.terms) (length inserts + length deletes) _ _ c.meeting_facts.ensures.counted
    (λ f. ¬ Meets axioms inserts deletes f) inserts c.in_ok-removed.removed.items c.in_ok-followers.field-0.items c.in_ok-entailed.entailed.items c.in_ok-survivors.survivors.items c.in_ok-with_copies.field-0.items c.in_ok-put.put.items _
    some c.in_ok-removed.ensures.met (rw c.as_slice.ensures.value at c.in_ok-followers.ensures.few) c.in_ok-entailed.ensures.same
    (subst (λ (fs : List Fact). Picks (λ f. ¬ Meets axioms inserts deletes f) fs c.in_ok-survivors.survivors.items) c.as_slice-3.ensures.value c.in_ok-survivors.ensures)
    c.in_ok-with_copies.ensures c.in_ok-put.ensures.sorted c.in_ok-put.ensures.same (rw c.as_slice-4.ensures.value at c.unheld.ensures.counted)

pub returns-clause-counted : goal.returns-clause-counted
returns-clause-counted g c =
    let axioms = c.args.rules.now.axioms in
    let inserts = c.args.inserts.now in
    let deletes = c.args.deletes.now in
    let some : length inserts ≤ length inserts + length deletes = omega arith in
    step_within (IsRemoved axioms (g.S.FactSet.facts c.args.set.now) inserts deletes) (length c.args.rules.now.terms) (length inserts + length deletes) _ _ c.meeting_facts.ensures.counted
    (λ f. ¬ Meets axioms inserts deletes f) inserts c.in_ok-removed.removed.items c.in_ok-followers.field-0.items c.in_ok-entailed.entailed.items c.in_ok-survivors.survivors.items c.in_ok-with_copies.field-0.items c.in_ok-put.put.items _
    some c.in_ok-removed.ensures.met (rw c.as_slice.ensures.value at c.in_ok-followers.ensures.few) c.in_ok-entailed.ensures.same
    (subst (λ (fs : List Fact). Picks (λ f. ¬ Meets axioms inserts deletes f) fs c.in_ok-survivors.survivors.items) c.as_slice-3.ensures.value c.in_ok-survivors.ensures)
    c.in_ok-with_copies.ensures c.in_ok-put.ensures.sorted c.in_ok-put.ensures.same (rw c.as_slice-4.ensures.value at c.unheld.ensures.counted)

pub returns-clause-ok : goal.returns-clause-ok
returns-clause-ok g c =
    let axioms = c.args.rules.now.axioms in
    let old = g.S.FactSet.facts c.args.set.now in
    let inserts = c.args.inserts.now in
    let deletes = c.args.deletes.now in
    let gone = c.in_ok-removed.removed.items in
    let removes = c.in_ok-removed.ensures.met in
    let entailed = c.in_ok-entailed.entailed.items in
    let raw = c.in_ok-followers.field-0.items in
    let follows = through (λ f. (x : Fact) × Contains gone x × InClosure axioms (x ∷ []) f) raw entailed c.in_ok-entailed.ensures.same
    (follow_all axioms gone raw (subst (λ (fs : List Fact). Collects (FollowsFrom axioms fs) (length fs) raw) c.as_slice.ensures.value c.in_ok-followers.ensures.follows)) in
    let less = c.in_ok-lost.lost.items in
    let kept = c.in_ok-survivors.survivors.items in
    let joined = c.in_ok-with_copies.field-0.items in
    let come = c.in_ok-put.put.items in
    let more = c.in_ok-added.added.items in
    let joins = through (λ f. Contains kept f ⊎ Contains inserts f) joined come c.in_ok-put.ensures.same c.in_ok-with_copies.ensures in
    let puts = come_is axioms old inserts deletes c.requires.consistent c.requires.well gone entailed removes c.in_ok-entailed.ensures.sorted follows kept come
    (subst (λ (fs : List Fact). Picks (λ f. ¬ Meets axioms inserts deletes f) fs kept) c.as_slice-3.ensures.value c.in_ok-survivors.ensures) joins in
    step_is axioms old inserts deletes c.requires.consistent c.requires.well gone entailed removes c.in_ok-entailed.ensures.sorted follows _ refl
    (subst (λ (fs : List Fact). Picks (Meets axioms inserts deletes) fs less) c.as_slice-2.ensures.value c.in_ok-lost.ensures)
    c.in_ok-put.ensures.sorted puts
    (subst (λ (fs : List Fact). Picks (λ f. ¬ Contains old f) fs more) c.as_slice-4.ensures.value c.in_ok-added.ensures.picked)
