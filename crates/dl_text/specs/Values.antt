-- Canonical texts of values.
use Rattle.std.specs.Prelude.{◌≡◌, ◌<◌, ℕ, List, [], ◌∷◌, length, Bool, false, if◌then◌else◌, ◌||◌, ◌==◌, All, IsTrue, Result, Ok, Err}
use Rattle.std.specs.Char.{is_ascii_digit}
use Rattle.dl_text.specs.declared.faults.TextFault.{TextFault}
use Rattle.dl_text.specs.declared.faults.TextFault.TheVariants.{BadIri, BadEscape, BadLiteral, NameTooLong, UnknownPrefix, OutOfMemory}

-- what stands behind the sign
abbrev pub digits_of : List ℕ → List ℕ
digits_of [] = []
digits_of (b ∷ bs) = if b == 43 || b == 45 then bs else b ∷ bs

abbrev pub is_minus : List ℕ → Bool
is_minus [] = false
is_minus (b ∷ bs) = b == 45

-- an optional sign and one or more digits
abbrev pub IsInteger : List ℕ → Type 0
IsInteger text = (0 < length (digits_of text)) × All (λ b. IsTrue (is_ascii_digit b)) (digits_of text)

abbrev pub without_zeros : List ℕ → List ℕ
without_zeros [] = []
without_zeros (b ∷ bs) = if b == 48 then without_zeros bs else b ∷ bs

-- a number from its digits without leading zeros
abbrev pub number_text : Bool → List ℕ → List ℕ
number_text minus [] = 48 ∷ []
number_text minus (d ∷ ds) = if minus then 45 ∷ d ∷ ds else d ∷ ds

-- no +, no leading zeros, 0 for every spelling of zero, else - kept
abbrev pub integer_text : List ℕ → List ℕ
integer_text text = number_text (is_minus text) (without_zeros (digits_of text))

-- where the text is one of these values, its canonical text is out
abbrev pub IsMade : Type 0 → List ℕ → Result (List ℕ) TextFault → Type 0
IsMade P out (Ok text) = P × (text ≡ out)
IsMade P out (Err BadLiteral) = ¬ P
IsMade P out (Err OutOfMemory) = Unit {0}
IsMade P out (Err BadIri) = ⊥
IsMade P out (Err BadEscape) = ⊥
IsMade P out (Err NameTooLong) = ⊥
IsMade P out (Err UnknownPrefix) = ⊥
