use Rattle.std.proofs.Common.{IsTrue, List, Bool, false, sym, subst, ◌∙◌}
use Rattle.std.specs.Prelude.{◌↔◌, Contains}
use Rattle.std.proofs.lemmas.Bool.{false≢true}
use Rattle.dl_base.specs.declared.axioms.Axiom.TheVariants.{FunctionalRole}
use Rattle.dl_base.specs.declared.terms.RoleSide.{RoleSide}
use Rattle.dl_base.specs.Ontologies.{Theory}
use Rattle.dl_laws.specs.Meeting.{ShareFunctionalRole}
use Rattle.conflict_rules.specs.Functional.{IsSet}
use Rattle.conflict_rules.proofs.FunctionalLaws.{shared_role}
use Rattle.conflict_rules.proofs.conflicts.Conflicts.share_functional_role.Goals as goal

pub returns-then-not-same_role : goal.returns-then-not-same_role
returns-then-not-same_role c =
    let inside = c.self.inside.implied in
    subst (λ (t : Theory). IsTrue false ↔ ShareFunctionalRole t.axioms c.args.one c.args.other) c.self.view_is (
      (λ h. absurd (false≢true h)),
      (λ h. absurd (false≢true (sym c.if-not-same_role.true ∙ c.same_role.ensures.1 ((shared_role inside.axioms c.terms-terms.ensures.sound.valid c.args.one c.args.other).0 h).0))),
    )

pub returns-in-Direct : goal.returns-in-Direct
returns-in-Direct c =
    let inside = c.self.inside.implied in
    let law = shared_role inside.axioms c.terms-terms.ensures.sound.valid c.args.one c.args.other in
    let marks = c.self.invariant.of_subjects c.in-Direct.term in
    let slice = c.as_slice in
    let told = c.is_set in
    let set : IsTrue told.result ↔ IsSet c.self.inside.of_subjects.items c.in-Direct.term.0 = subst (λ (xs : List Bool). IsTrue told.result ↔ IsSet xs c.in-Direct.term.0) slice.ensures.value told.ensures in
    subst (λ (t : Theory). IsTrue told.result ↔ ShareFunctionalRole t.axioms c.args.one c.args.other) c.self.view_is (
      (λ h. law.1 (c.same_role.ensures.0 c.if-not-same_role.false, subst (λ (z : RoleSide). Contains inside.axioms (FunctionalRole z)) (sym c.in-Direct.is) (marks.0 (set.0 h)))),
      (λ h. set.1 (marks.1 (subst (λ (z : RoleSide). Contains inside.axioms (FunctionalRole z)) c.in-Direct.is (law.0 h).1))),
    )

pub returns-in-Inverse : goal.returns-in-Inverse
returns-in-Inverse c =
    let inside = c.self.inside.implied in
    let law = shared_role inside.axioms c.terms-terms.ensures.sound.valid c.args.one c.args.other in
    let marks = c.self.invariant.of_objects c.in-Inverse.term in
    let slice = c.as_slice-in-Inverse in
    let told = c.is_set-in-Inverse in
    let set : IsTrue told.result ↔ IsSet c.self.inside.of_objects.items c.in-Inverse.term.0 = subst (λ (xs : List Bool). IsTrue told.result ↔ IsSet xs c.in-Inverse.term.0) slice.ensures.value told.ensures in
    subst (λ (t : Theory). IsTrue told.result ↔ ShareFunctionalRole t.axioms c.args.one c.args.other) c.self.view_is (
      (λ h. law.1 (c.same_role.ensures.0 c.if-not-same_role.false, subst (λ (z : RoleSide). Contains inside.axioms (FunctionalRole z)) (sym c.in-Inverse.is) (marks.0 (set.0 h)))),
      (λ h. set.1 (marks.1 (subst (λ (z : RoleSide). Contains inside.axioms (FunctionalRole z)) c.in-Inverse.is (law.0 h).1))),
    )
