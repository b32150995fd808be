use Rattle.std.proofs.Common.{◌≡◌, ◌++◌, ◌-◌, List, ℕ, length, take, drop, sym, ap, subst, ◌∙◌, false, true}
use Rattle.std.proofs.lemmas.Bool.{false≢true}
use Rattle.dl_runs.specs.declared.runs.Class.TheVariants as classes
use Rattle.dl_runs.specs.Classes.{IsLongest, IsSome}
use Rattle.dl_runs.proofs.ExactLaws.{longest_one}
use Rattle.update_read.specs.Cutting.{goes_on, IsNumber}
use Rattle.update_read.proofs.NumberLaws.{number_at}
use Rattle.update_read.proofs.numbers.cut_number.Goals as goal

pub returns-then-goes_on : goal.returns-then-goes_on
returns-then-goes_on c text rest n =
    let here = subst (λ (z : List ℕ). IsLongest (IsSome classes.Digit) z c.in-Some._digits.now c.in-Some.rest.now) c.behind_sign.ensures c.in-Some.ensures in
    let one = longest_one (IsSome classes.Digit) _ _ _ _ _ here n.is_digits in
    false≢true (sym n.whole ∙ ap goes_on (sym one.1) ∙ sym c.goes_on.ensures ∙ c.if-goes_on.true)

pub returns : goal.returns
returns c =
    let here = subst (λ (z : List ℕ). IsLongest (IsSome classes.Digit) z c.in-Some._digits.now c.in-Some.rest.now) c.behind_sign.ensures c.in-Some.ensures in
    subst (λ (z : List ℕ). IsNumber c.args.bytes.now c.split_at.result.0.now z) (sym c.split_at.ensures.back)
    (subst (λ (z : List ℕ). IsNumber c.args.bytes.now z (drop (length c.args.bytes.now - length c.in-Some.rest.now) c.args.bytes.now)) (sym c.split_at.ensures.front)
    (number_at c.args.bytes.now c.in-Some._digits.now c.in-Some.rest.now here (sym c.goes_on.ensures ∙ c.if-goes_on.false)))
