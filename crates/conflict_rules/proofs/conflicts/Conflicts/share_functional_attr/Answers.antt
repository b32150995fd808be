use Rattle.std.proofs.Common.{IsTrue, List, Bool, false, sym, subst, ◌∙◌}
use Rattle.std.specs.Prelude.{◌↔◌}
use Rattle.std.proofs.lemmas.Bool.{false≢true}
use Rattle.dl_base.specs.Ontologies.{Theory}
use Rattle.dl_laws.specs.Meeting.{ShareFunctionalAttr}
use Rattle.conflict_rules.specs.Functional.{IsSet}
use Rattle.conflict_rules.proofs.FunctionalLaws.{shared_attr}
use Rattle.conflict_rules.proofs.conflicts.Conflicts.share_functional_attr.Goals as goal

pub returns-then-not-same_term : goal.returns-then-not-same_term
returns-then-not-same_term c =
    let inside = c.self.inside.implied in
    subst (λ (t : Theory). IsTrue false ↔ ShareFunctionalAttr t.axioms c.args.one c.args.other) c.self.view_is (
      (λ h. absurd (false≢true h)),
      (λ h. absurd (false≢true (sym c.if-not-same_term.true ∙ c.same_term.ensures.1 ((shared_attr inside.axioms c.terms-terms.ensures.sound.valid c.args.one c.args.other).0 h).0))),
    )

pub returns : goal.returns
returns c =
    let inside = c.self.inside.implied in
    let law = shared_attr inside.axioms c.terms-terms.ensures.sound.valid c.args.one c.args.other in
    let marks = c.self.invariant.of_attrs c.args.one in
    let set : IsTrue c.is_set.result ↔ IsSet c.self.inside.of_attrs.items c.args.one.0 = subst (λ (xs : List Bool). IsTrue c.is_set.result ↔ IsSet xs c.args.one.0) c.as_slice.ensures.value c.is_set.ensures in
    subst (λ (t : Theory). IsTrue c.is_set.result ↔ ShareFunctionalAttr t.axioms c.args.one c.args.other) c.self.view_is (
      (λ h. law.1 (c.same_term.ensures.0 c.if-not-same_term.false, marks.0 (set.0 h))),
      (λ h. set.1 (marks.1 (law.0 h).1)),
    )
