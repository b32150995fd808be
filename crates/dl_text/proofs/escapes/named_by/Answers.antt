use Rattle.std.proofs.Common.{◌+◌, ◌*◌, ◌<◌, length, take, sym, ap, ◌∙◌, subst, arith}
use Rattle.std.specs.Str.Parse.{digits_value}
use Rattle.std.proofs.lemmas.Int.Digits.{digits_value_more}
use Rattle.dl_text.proofs.Digits.{digits_more, digit_at, seven_fit}
use Rattle.dl_text.proofs.escapes.named_by.Goals as goal

pub returns-in_default : goal.returns-in_default
returns-in_default c =
    let within : c.loop-digit.digit-index < length c.args.digits.now = omega arith in
    λ code n. c.in_default.ensures (digit_at 16 c.args.digits.now c.loop-digit.digit-index within n.hex)

pub overflow_mul-code : goal.overflow_mul-code
overflow_mul-code c =
    let within : c.loop-digit.digit-index < length c.args.digits.now = omega arith in
    let most = seven_fit c.args.digits.now c.loop-digit.digit-index within c.requires c.loop-digit.invariant.hex in
    omega arith

pub overflow_add-code : goal.overflow_add-code
overflow_add-code c =
    let within : c.loop-digit.digit-index < length c.args.digits.now = omega arith in
    let most = seven_fit c.args.digits.now c.loop-digit.digit-index within c.requires c.loop-digit.invariant.hex in
    omega (arith, c.in-Some.ensures)

pub loop-digit-preserved : goal.loop-digit-preserved
loop-digit-preserved c =
    let within : c.loop-digit.digit-index < length c.args.digits.now = omega arith in
    let value = c.in-Some.ensures in
    record {
      hex = digits_more 16 c.args.digits.now c.loop-digit.digit-index within c.loop-digit.invariant.hex (subst (λ d. d < 16) value.0 value.1);
      code = ap (λ n. n * 16 + c.in-Some.value) c.loop-digit.invariant.code ∙ ap (λ d. digits_value 16 (take c.loop-digit.digit-index c.args.digits.now) * 16 + d) value.0 ∙ sym (digits_value_more 16 c.args.digits.now c.loop-digit.digit-index within);
    }
