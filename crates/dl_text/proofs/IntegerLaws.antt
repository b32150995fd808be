-- The canonical text of an integer is an integer, and is canonical.
use Rattle.std.proofs.Common.{◌≡◌, ◌≢◌, ℕ, List, [], ◌∷◌, Bool, true, false, IsTrue, refl, ⊎_elim, arith}
use Rattle.std.specs.Prelude.{All, ◌||◌, ◌==◌}
use Rattle.std.specs.Char.{is_ascii_digit}
use Rattle.std.proofs.lemmas.Bool.{cases_eq}
use Rattle.std.proofs.lemmas.Bool.Decides.{nat_tests}
use Rattle.std.proofs.lemmas.List.Elements.{All-nil, All-cons, All-head, All-tail}
use Rattle.dl_text.specs.Values.{digits_of, is_minus, IsInteger, without_zeros, number_text, integer_text}

abbrev pub IsDigit : ℕ → Type 0
IsDigit b = IsTrue (is_ascii_digit b)

same_byte : (a b : ℕ) → a ≡ b → (a == b) ≡ true
same_byte a b e = grind (arith, nat_tests)

other_byte : (a b : ℕ) → a ≢ b → (a == b) ≡ false
other_byte a b n = grind (arith, nat_tests)

-- what is left begins with no zero
abbrev pub NoZero : List ℕ → Type 0
NoZero [] = Unit {0}
NoZero (d ∷ ds) = d ≢ 48

no_zero : (digits : List ℕ) → NoZero (without_zeros digits)
no_zero [] = tt
no_zero (d ∷ ds) =
    ⊎_elim (λ e. rw (same_byte d 48 e) (no_zero ds)) (λ n. rw (other_byte d 48 n) n) (cases_eq d 48)

all_digits : (digits : List ℕ) → All IsDigit digits → All IsDigit (without_zeros digits)
all_digits [] a = a
all_digits (d ∷ ds) a =
    ⊎_elim (λ e. rw (same_byte d 48 e) (all_digits ds (All-tail IsDigit d ds a))) (λ n. rw (other_byte d 48 n) a) (cases_eq d 48)

no_sign : (d : ℕ) → IsDigit d → (d == 43 || d == 45) ≡ false
no_sign d h = grind (arith, nat_tests)

no_minus : (d : ℕ) → IsDigit d → (d == 45) ≡ false
no_minus d h = grind (arith, nat_tests)

-- the text of a number without leading zeros
abbrev pub IsAgain : List ℕ → Type 0
IsAgain text = IsInteger text × (integer_text text ≡ text)

number_again : (minus : Bool) (digits : List ℕ) → All IsDigit digits → NoZero digits → IsAgain (number_text minus digits)
number_again minus [] a z = ((omega arith, All-cons IsDigit 48 [] refl (All-nil IsDigit)), refl)
number_again true (d ∷ ds) a z = ((omega arith, a), rw (other_byte d 48 z) refl)
number_again false (d ∷ ds) a z =
    let sign = no_sign d (All-head IsDigit d ds a) in
    let minus = no_minus d (All-head IsDigit d ds a) in
    let zero = other_byte d 48 z in
    (rw sign (omega arith, a), rw (sign, minus, zero) refl)

pub integer_again : (text : List ℕ) → IsInteger text → IsAgain (integer_text text)
integer_again text i = number_again (is_minus text) (without_zeros (digits_of text)) (all_digits (digits_of text) i.1) (no_zero (digits_of text))
