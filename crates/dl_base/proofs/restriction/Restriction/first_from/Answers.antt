use Rattle.std.proofs.Common.{◌<◌, length, arith, sym, ◌∙◌, inl, inr, ⊎_elim, refl}
use Rattle.dl_base.specs.Vocabularies.{functional_by, specialised_by}
use Rattle.dl_base.proofs.VocabularyLaws.{done_more, still_valid, breaks_here}
use Rattle.dl_base.proofs.restriction.Restriction.first_from.Goals as goal
use Rattle.dl_base.proofs.restriction.Restriction.first_from.Goals.{then-has-via-then-has, then-has-via-else-has+then-has-2}

pub returns-then-has : goal.returns-then-has
returns-then-has c =
    let within : c.loop-place.place < length c.args.axioms.now = omega (arith, c.loop-place-test.true) in
    record {
      within = within;
      here = breaks_here c.args.axioms.now c.loop-place.place c.index-axioms-place.result within c.index-axioms-place.is (elim c.then-has.branch [
        | then-has-via-then-has w ↦
            let s = w.if-has.ensures.0 refl in
            inl (s.0, sym c.functional-here.ensures ∙ s.1, (c.loop-place.invariant.0.specials s.0).0 s.2)
        | then-has-via-else-has+then-has-2 w ↦
            let s = w.if-has-2.ensures.0 refl in
            inr (s.0, sym c.specialised-below.ensures ∙ s.1, (c.loop-place.invariant.0.functionals s.0).0 s.2)
      ]);
      least = c.loop-place.invariant.1;
    }

pub loop-place-preserved : goal.loop-place-preserved
loop-place-preserved c =
    let within : c.loop-place.place < length c.args.axioms.now = omega (arith, c.loop-place-test.true) in
    let x = c.index-axioms-place.result in
    let is = c.index-axioms-place.is in
    let i = c.loop-place.place in (
      record {
        functionals = done_more functional_by _ _ c.args.axioms.now i x within is c.loop-place.invariant.0.functionals
            (λ p. ((λ m. ⊎_elim (λ e. inl (sym c.functional-here.ensures ∙ e)) inr ((c.in_ok-note.ensures p).0 m)), λ s. (c.in_ok-note.ensures p).1 (⊎_elim (λ e. inl (c.functional-here.ensures ∙ e)) inr s)));
        specials = done_more specialised_by _ _ c.args.axioms.now i x within is c.loop-place.invariant.0.specials
            (λ p. ((λ m. ⊎_elim (λ e. inl (sym c.specialised-below.ensures ∙ e)) inr ((c.in_ok-note-2.ensures p).0 m)), λ s. (c.in_ok-note-2.ensures p).1 (⊎_elim (λ e. inl (c.specialised-below.ensures ∙ e)) inr s)));
      },
      still_valid c.args.axioms.now i x within is c.loop-place.invariant.1
          (λ p e d. let no = c.if-has.ensures.1 (p, c.functional-here.ensures ∙ e, (c.loop-place.invariant.0.specials p).1 d) in let yes = c.if-has.false in cc)
          (λ p e d. let no = c.if-has-2.ensures.1 (p, c.specialised-below.ensures ∙ e, (c.loop-place.invariant.0.functionals p).1 d) in let yes = c.if-has-2.false in cc),
    )
