use Rattle.std.proofs.Common.{◌≡◌, ◌<◌, length, arith, ◌∙◌}
use Rattle.dl_base.proofs.NamesLaws.{found_twice, insert_new}
use Rattle.dl_base.proofs.vocabulary.numbered.Goals as goal

pub returns-then-not-new-clause-twice : goal.returns-then-not-new-clause-twice
returns-then-not-new-clause-twice c =
    let within : c.loop-place.place < length c.args.terms.now = omega (arith, c.loop-place-test.true) in
    let bytes : c.in_ok-from_slice.field-0.items ≡ c.index-terms-place.result.0 = c.in_ok-from_slice.ensures.items ∙ c.as_slice.ensures.value in
    record {
      here = found_twice c.args.terms.now c.loop-place.names.keys c.loop-place.place c.index-terms-place.result c.in_ok-from_slice.field-0 within c.index-terms-place.is bytes c.loop-place.invariant.0
          c.in_ok-new.ensures.added (let h = c.if-not-new.true in cc);
      least = c.loop-place.invariant.1;
    }

pub loop-place-preserved : goal.loop-place-preserved
loop-place-preserved c =
    let within : c.loop-place.place < length c.args.terms.now = omega (arith, c.loop-place-test.true) in
    let bytes : c.in_ok-from_slice.field-0.items ≡ c.index-terms-place.result.0 = c.in_ok-from_slice.ensures.items ∙ c.as_slice.ensures.value in
    insert_new c.args.terms.now c.loop-place.names.keys c.loop-place.place c.index-terms-place.result c.in_ok-from_slice.field-0 within c.index-terms-place.is bytes c.loop-place.invariant.0 c.loop-place.invariant.1
    c.in_ok-new.ensures.added (let h = c.if-not-new.false in cc) c.in_ok-new.ensures.keys
