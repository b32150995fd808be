use Rattle.std.proofs.Common.{inl, inr, refl, sym, ◌∙◌, ⊎_elim}
use Rattle.std.proofs.lemmas.Bool.{false≢true}
use Rattle.tbox_closure.proofs.emptiness.are_disjoint_among.Goals as goal

pub returns-then-disjoint_concepts-2 : goal.returns-then-disjoint_concepts-2
returns-then-disjoint_concepts-2 c = (λ _. inr (inl (c.disjoint_concepts-2.ensures.0 c.if-disjoint_concepts-2.true)), λ _. refl)

pub returns : goal.returns
returns c = (
  λ h. inr (inr (c.disjoint_concepts-3.ensures.0 h)),
  λ s. ⊎_elim
      (λ h. absurd (false≢true (sym c.if-disjoint_concepts.false ∙ c.disjoint_concepts.ensures.1 h)))
      (λ t. ⊎_elim (λ h. absurd (false≢true (sym c.if-disjoint_concepts-2.false ∙ c.disjoint_concepts-2.ensures.1 h))) (λ h. c.disjoint_concepts-3.ensures.1 h) t)
      s,
)
