-- Where a number stands.
use Rattle.std.proofs.Common.{◌≡◌, ◌≢◌, ◌-◌, ◌<◌, ◌≤◌, ℕ, List, [], ◌∷◌, ◌++◌, Bool, true, false, cond, length, take, drop, refl, sym, ap, subst, ◌∙◌, append_assoc, arith}
use Rattle.std.specs.Prelude.{◌||◌, ◌==◌}
use Rattle.std.proofs.lemmas.List.{take-append-drop, length-append}
use Rattle.dl_text.specs.Values.{digits_of}
use Rattle.dl_runs.specs.declared.runs.Class.TheVariants as classes
use Rattle.dl_runs.specs.Classes.{IsLongest, IsSome}
use Rattle.dl_runs.proofs.CharLaws.{cut_front}
use Rattle.update_read.specs.Cutting.{goes_on, IsNumber}

-- the digits stand behind a sign or nothing
sign_of : (raw : List ℕ) → (sign : List ℕ) × (raw ≡ sign ++ digits_of raw)
sign_of [] = ([], refl)
sign_of (b ∷ bs) = by (b == 43 || b == 45)
  where
    by : (v : Bool) → (sign : List ℕ) × (b ∷ bs ≡ sign ++ cond v bs (b ∷ bs))
    by true = (b ∷ [], refl)
    by false = ([], refl)

front_of : (raw digits rest : List ℕ) → IsLongest (IsSome classes.Digit) (digits_of raw) digits rest → (front : List ℕ) × (raw ≡ front ++ rest)
front_of raw digits rest l =
    let s = sign_of raw in
    (s.0 ++ digits, s.1 ∙ ap (λ (z : List ℕ). s.0 ++ z) l.is ∙ sym (append_assoc s.0 digits rest))

pub number_within : (raw digits rest : List ℕ) → IsLongest (IsSome classes.Digit) (digits_of raw) digits rest → length rest ≤ length raw
number_within raw digits rest l = let f = front_of raw digits rest l in omega (arith, ap length f.1, length-append f.0 rest)

pub number_at : (raw digits rest : List ℕ) → IsLongest (IsSome classes.Digit) (digits_of raw) digits rest → goes_on rest ≡ false
    → IsNumber raw (take (length raw - length rest) raw) (drop (length raw - length rest) raw)
number_at raw digits rest l w =
    let f = front_of raw digits rest l in
    let cut = cut_front raw f.0 rest f.1 in record {
      digits = digits;
      is = sym (take-append-drop (length raw - length rest) raw);
      is_digits = subst (λ (z : List ℕ). IsLongest (IsSome classes.Digit) (digits_of raw) digits z) cut.1 l;
      whole = ap goes_on (sym cut.1) ∙ w;
    }

-- a number is not empty
pub number_front : (raw text rest : List ℕ) → IsNumber raw text rest → 0 < length text
number_front raw text rest n =
    let s = sign_of raw in
    let some = some_length n.digits n.is_digits.such.0 in
    let a = ap length n.is_digits.is in
    let b = ap length s.1 in
    let c = ap length n.is in
    omega (arith, some, a, b, c, length-append n.digits rest, length-append s.0 (digits_of raw), length-append text rest)
  where
    some_length : (xs : List ℕ) → xs ≢ [] → 0 < length xs
    some_length [] n = absurd (n refl)
    some_length (x ∷ xs) n = omega arith
