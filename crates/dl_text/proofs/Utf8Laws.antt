-- The first place that isn't UTF-8 is one.
use Rattle.std.proofs.Common.{◌≡◌, ℕ, List, Option, Some, None, refl, sym, ap, ◌∙◌, arith}
use Rattle.std.specs.Prelude.{MatchOption}
use Rattle.std.specs.Str.{IsUtf8, IsValidUpTo}
use Rattle.std.proofs.lemmas.Str.{utf8_valid_len-IsUtf8, utf8_valid_len-IsValidUpTo}

abbrev pub Places : List ℕ → Option ℕ → Type 0
Places bytes r = MatchOption r (IsUtf8 bytes) (IsValidUpTo bytes)

never : (bytes : List ℕ) (at : ℕ) → IsUtf8 bytes → IsValidUpTo bytes at → ⊥
never bytes at u v = let same = sym (utf8_valid_len-IsUtf8 bytes u) ∙ utf8_valid_len-IsValidUpTo bytes at v in omega (arith, same, v.short)

pub utf8_one : (bytes : List ℕ) (r s : Option ℕ) → Places bytes r → Places bytes s → r ≡ s
utf8_one bytes None None h k = refl
utf8_one bytes None (Some j) h k = absurd (never bytes j h k)
utf8_one bytes (Some i) None h k = absurd (never bytes i k h)
utf8_one bytes (Some i) (Some j) h k = ap (λ (n : ℕ). Some n) (sym (utf8_valid_len-IsValidUpTo bytes i h) ∙ utf8_valid_len-IsValidUpTo bytes j k)
