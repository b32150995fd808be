use Rattle.std.proofs.Common.{refl, sym, inl, inr, ⊎_elim, ◌∙◌}
use Rattle.std.proofs.lemmas.Bool.{false≢true}
use Rattle.conflict_rules.proofs.Guarding.{clash_of_one}
use Rattle.conflict_rules.proofs.conflicts.Conflicts.alone.Goals as goal

pub returns-then-is_unsatisfiable : goal.returns-then-is_unsatisfiable
returns-then-is_unsatisfiable c = (λ _. (clash_of_one c.args.self.now.axioms c.args.fact.now).0 (inl (c.is_unsatisfiable.ensures.0 c.if-is_unsatisfiable.true)), λ _. refl)

pub returns-then-breaks_range : goal.returns-then-breaks_range
returns-then-breaks_range c = (λ _. (clash_of_one c.args.self.now.axioms c.args.fact.now).0 (inr (inl (c.breaks_range.ensures.0 c.if-breaks_range.true))), λ _. refl)

pub returns : goal.returns
returns c =
    let law = clash_of_one c.args.self.now.axioms c.args.fact.now in (
      λ h. law.0 (inr (inr (c.facts_clash.ensures.0 h))),
      λ k. ⊎_elim
          (λ x. absurd (false≢true (sym c.if-is_unsatisfiable.false ∙ c.is_unsatisfiable.ensures.1 x)))
          (λ y. ⊎_elim (λ x. absurd (false≢true (sym c.if-breaks_range.false ∙ c.breaks_range.ensures.1 x))) (λ z. c.facts_clash.ensures.1 z) y)
          (law.1 k),
    )
