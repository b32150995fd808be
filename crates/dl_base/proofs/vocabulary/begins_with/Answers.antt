use Rattle.std.proofs.Common.{◌≡◌, length, take, drop, arith, refl, sym, ap, ◌∙◌, ◌++◌}
use Rattle.std.proofs.Math.Seq.{take-length}
use Rattle.std.proofs.lemmas.List.{take-append-drop}
use Rattle.dl_base.proofs.vocabulary.begins_with.Goals as goal

pub returns : goal.returns
returns c =
    let n = length c.args.base.now in
    let all : c.loop-place.place ≡ n = omega (arith, c.loop-place-test.false, c.loop-place.auto.place-end) in
    let same : c.args.base.now ≡ take n c.args.terms.now = sym (take-length c.args.base.now) ∙ ap (λ k. take k c.args.base.now) (sym all) ∙ c.loop-place.invariant ∙ ap (λ k. take k c.args.terms.now) all in
    ((λ h. (drop n c.args.terms.now, sym (take-append-drop n c.args.terms.now) ∙ ap (λ zs. zs ++ drop n c.args.terms.now) (sym same))), λ h. refl)
