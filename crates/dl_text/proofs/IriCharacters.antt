-- The rule of IRIs says the same of the bytes of a text as of its characters.
use Rattle.std.proofs.Common.{◌≡◌, ◌≤◌, ◌↔◌, ◌+◌, ◌/◌, ◌%◌, ℕ, List, [], ◌∷◌, ◌++◌, Bool, true, false, cond, IsTrue, sym, subst, ◌∙◌, ⊎_elim, ltb, arith}
use Rattle.std.specs.Prelude.{All}
use Rattle.std.specs.Char.{is_ascii_alphabetic}
use Rattle.std.specs.Str.{encode_utf8_all}
use Rattle.std.proofs.Math.Utf8.{encode}
use Rattle.std.proofs.lemmas.Str.{encode_ascii}
use Rattle.std.proofs.lemmas.Bool.{cases_eq, cases_lt, false≢true}
use Rattle.std.proofs.lemmas.Bool.Decides.{nat_tests}
use Rattle.std.proofs.lemmas.List.Elements.{All-nil, All-cons, All-head, All-tail, All-append, All-weaker}
use Rattle.dl_text.specs.Iris.{is_iri_byte, is_scheme_byte, HasScheme, IsAbsolute, IsIri}
use Rattle.dl_text.proofs.IriLaws.{has_more, has_now, has_less}

abbrev pub IsClean : ℕ → Type 0
IsClean b = IsTrue (is_iri_byte b)

high_clean : (b : ℕ) → 128 ≤ b → IsClean b
high_clean b h = grind (arith, nat_tests)

high_scheme : (b : ℕ) → 128 ≤ b → is_scheme_byte b ≡ false
high_scheme b h = grind (arith, nat_tests)

high_letter : (b : ℕ) → 128 ≤ b → is_ascii_alphabetic b ≡ false
high_letter b h = grind (arith, nat_tests)

-- one byte or more, none of them ASCII
abbrev pub IsHigh : List ℕ → Type 0
IsHigh [] = ⊥
IsHigh (b ∷ bs) = (128 ≤ b) × All (λ x. 128 ≤ x) bs

either_high : (t : Bool) (xs ys : List ℕ) → IsHigh xs → IsHigh ys → IsHigh (cond t xs ys)
either_high true xs ys h k = h
either_high false xs ys h k = k

abbrev pub AllHigh : List ℕ → Type 0
AllHigh bs = All (λ x. 128 ≤ x) bs

one_high : (b : ℕ) (bs : List ℕ) → 128 ≤ b → AllHigh bs → AllHigh (b ∷ bs)
one_high b bs h k = All-cons (λ x. 128 ≤ x) b bs h k

no_high : AllHigh []
no_high = All-nil (λ x. 128 ≤ x)

not_ascii : (c : ℕ) → 128 ≤ c → ltb c 128 ≡ false
not_ascii c h = grind (arith, nat_tests)

two_high : (a b : ℕ) → 128 ≤ a → 128 ≤ b → IsHigh (a ∷ b ∷ [])
two_high a b h k = (h, one_high b [] k no_high)

three_high : (a b c : ℕ) → 128 ≤ a → 128 ≤ b → 128 ≤ c → IsHigh (a ∷ b ∷ c ∷ [])
three_high a b c h k l = (h, one_high b (c ∷ []) k (one_high c [] l no_high))

four_high : (a b c d : ℕ) → 128 ≤ a → 128 ≤ b → 128 ≤ c → 128 ≤ d → IsHigh (a ∷ b ∷ c ∷ d ∷ [])
four_high a b c d h k l m = (h, one_high b (c ∷ d ∷ []) k (one_high c (d ∷ []) l (one_high d [] m no_high)))

lead : (a b : ℕ) → 128 ≤ a → 128 ≤ a + b
lead a b h = omega arith

-- a character past ASCII has only bytes past ASCII
pub high : (c : ℕ) → 128 ≤ c → IsHigh (encode c)
unfolding encode
high c h =
    let last = lead 128 (c % 64) (omega arith) in
    let middle = lead 128 (c / 64 % 64) (omega arith) in
    let third = lead 128 (c / 4096 % 64) (omega arith) in
    rw (not_ascii c h)
    (either_high (ltb c 2048) ((192 + c / 64) ∷ (128 + c % 64) ∷ []) _ (two_high (192 + c / 64) (128 + c % 64) (lead 192 (c / 64) (omega arith)) last)
    (either_high (ltb c 65536) ((224 + c / 4096) ∷ (128 + c / 64 % 64) ∷ (128 + c % 64) ∷ []) ((240 + c / 262144) ∷ (128 + c / 4096 % 64) ∷ (128 + c / 64 % 64) ∷ (128 + c % 64) ∷ [])
    (three_high (224 + c / 4096) (128 + c / 64 % 64) (128 + c % 64) (lead 224 (c / 4096) (omega arith)) middle last)
    (four_high (240 + c / 262144) (128 + c / 4096 % 64) (128 + c / 64 % 64) (128 + c % 64) (lead 240 (c / 262144) (omega arith)) third middle last)))

-- ---- every byte is clean exactly where every character is
clean_high : (bs : List ℕ) → IsHigh bs → All IsClean bs
clean_high [] h = absurd h
clean_high (b ∷ bs) h = All-cons IsClean b bs (high_clean b h.0) (All-weaker (λ x. 128 ≤ x) IsClean high_clean bs h.1)

behind_high : (bs rest : List ℕ) → All IsClean (bs ++ rest) → All IsClean rest
behind_high [] rest a = a
behind_high (b ∷ bs) rest a = behind_high bs rest (All-tail IsClean b (bs ++ rest) a)

clean_bytes : (cs : List ℕ) → All IsClean cs → All IsClean (encode_utf8_all cs)
clean_bytes [] a = All-nil IsClean
clean_bytes (c ∷ cs) a =
    let rest = clean_bytes cs (All-tail IsClean c cs a) in
    ⊎_elim
    (λ l. All-append IsClean (encode c) (encode_utf8_all cs) (subst (All IsClean) (sym (encode_ascii c l)) (All-cons IsClean c [] (All-head IsClean c cs a) (All-nil IsClean))) rest)
    (λ h. All-append IsClean (encode c) (encode_utf8_all cs) (clean_high (encode c) (high c h)) rest)
    (cases_lt c 128)

clean_characters : (cs : List ℕ) → All IsClean (encode_utf8_all cs) → All IsClean cs
clean_characters [] a = All-nil IsClean
clean_characters (c ∷ cs) a =
    let rest = clean_characters cs (behind_high (encode c) (encode_utf8_all cs) a) in
    ⊎_elim
    (λ l. All-cons IsClean c cs (All-head IsClean c (encode_utf8_all cs) (subst (λ (bs : List ℕ). All IsClean (bs ++ encode_utf8_all cs)) (encode_ascii c l) a)) rest)
    (λ h. All-cons IsClean c cs (high_clean c h) rest)
    (cases_lt c 128)

-- ---- so is the scheme
unmatched : (bs rest : List ℕ) → IsHigh bs → ¬ HasScheme (bs ++ rest)
unmatched [] rest h s = absurd h
unmatched (b ∷ bs) rest h s = false≢true (sym (high_scheme b h.0) ∙ (has_less b (bs ++ rest) (λ e. omega (arith, e, h.0)) s).0)

scheme_bytes : (cs : List ℕ) → HasScheme cs → HasScheme (encode_utf8_all cs)
scheme_bytes [] s = s
scheme_bytes (c ∷ cs) s =
    ⊎_elim (λ e. subst (λ (bs : List ℕ). HasScheme (bs ++ encode_utf8_all cs)) (sym (encode_ascii c (omega (arith, e)))) (has_now c (encode_utf8_all cs) e))
    (λ n. let parts = has_less c cs n s in
    ⊎_elim (λ l. subst (λ (bs : List ℕ). HasScheme (bs ++ encode_utf8_all cs)) (sym (encode_ascii c l)) (has_more c (encode_utf8_all cs) parts.0 (scheme_bytes cs parts.1)))
    (λ h. absurd (false≢true (sym (high_scheme c h) ∙ parts.0)))
    (cases_lt c 128)) (cases_eq c 58)

scheme_characters : (cs : List ℕ) → HasScheme (encode_utf8_all cs) → HasScheme cs
scheme_characters [] s = s
scheme_characters (c ∷ cs) s =
    ⊎_elim (λ e. has_now c cs e)
    (λ n. ⊎_elim
    (λ l. let parts = has_less c (encode_utf8_all cs) n (subst (λ (bs : List ℕ). HasScheme (bs ++ encode_utf8_all cs)) (encode_ascii c l) s) in has_more c cs parts.0 (scheme_characters cs parts.1))
    (λ h. absurd (unmatched (encode c) (encode_utf8_all cs) (high c h) s))
    (cases_lt c 128)) (cases_eq c 58)

first_high : (bs rest : List ℕ) → IsHigh bs → ¬ IsAbsolute (bs ++ rest)
first_high [] rest h a = absurd h
first_high (b ∷ bs) rest h a = false≢true (sym (high_letter b h.0) ∙ a.0)

absolute_bytes : (cs : List ℕ) → IsAbsolute cs → IsAbsolute (encode_utf8_all cs)
absolute_bytes [] a = a
absolute_bytes (c ∷ cs) a =
    ⊎_elim (λ l. subst (λ (bs : List ℕ). IsAbsolute (bs ++ encode_utf8_all cs)) (sym (encode_ascii c l)) (a.0, scheme_bytes cs a.1)) (λ h. absurd (false≢true (sym (high_letter c h) ∙ a.0))) (cases_lt c 128)

absolute_characters : (cs : List ℕ) → IsAbsolute (encode_utf8_all cs) → IsAbsolute cs
absolute_characters [] a = a
absolute_characters (c ∷ cs) a =
    ⊎_elim
    (λ l. let b = subst (λ (bs : List ℕ). IsAbsolute (bs ++ encode_utf8_all cs)) (encode_ascii c l) a in (b.0, scheme_characters cs b.1))
    (λ h. absurd (first_high (encode c) (encode_utf8_all cs) (high c h) a)) (cases_lt c 128)

pub iri_characters : (cs : List ℕ) → IsIri (encode_utf8_all cs) ↔ IsIri cs
iri_characters cs = (
  λ i. record { absolute = absolute_characters cs i.absolute; clean = clean_characters cs i.clean },
  λ i. record { absolute = absolute_bytes cs i.absolute; clean = clean_bytes cs i.clean },
)
