use Rattle.std.proofs.Common.{◌≡◌, take}
use Rattle.std.specs.Str.Parse.{AllDigits, digits_value}
use Rattle.dl_text.proofs.escapes.named_by.Given as goal

abbrev pub invariant-loop-digit : goal.invariant-loop-digit
invariant-loop-digit l = record {
  hex : AllDigits 16 (take l.digit-index l.digits);
  code : l.code ≡ digits_value 16 (take l.digit-index l.digits);
}
