use Rattle.std.proofs.Common.{[], ◌∷◌, refl, sym, ◌∙◌, subst, inl, inr, ⊎_elim}
use Rattle.std.specs.Prelude.{Contains}
use Rattle.std.proofs.lemmas.Bool.{false≢true}
use Rattle.dl_base.specs.Derivation.{InClosure}
use Rattle.dl_base.specs.Ontologies.{Theory}
use Rattle.dl_base.specs.declared.statements.Fact.{Fact}
use Rattle.read_patterns.proofs.meeting.meets_change.Goals as goal

pub clashes_with-requires-clause-consistent : goal.clashes_with-requires-clause-consistent
clashes_with-requires-clause-consistent c h = c.requires.well (inl h)

pub returns-then-clashes_with : goal.returns-then-clashes_with
returns-then-clashes_with c = ((λ h. inl (c.clashes_with.ensures.0 c.if-clashes_with.true)), λ h. refl)

pub returns : goal.returns
returns c =
    let entailed = λ (t : Theory). (d : Fact) × Contains c.args.deletes.now d × InClosure t.axioms (c.args.fact.now ∷ []) d in (
      (λ h. inr (subst entailed c.requires.same (c.entails_one.ensures.0 h))),
      λ m. ⊎_elim
          (λ k. absurd (false≢true (sym c.if-clashes_with.false ∙ c.clashes_with.ensures.1 k)))
          (λ k. c.entails_one.ensures.1 (subst entailed (sym c.requires.same) k))
          m,
    )
