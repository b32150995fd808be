-- A tag ends before a space.
use Rattle.std.proofs.Common.{◌≡◌, ◌<◌, ◌≤◌, ℕ, List, [], ◌∷◌, ◌++◌, length, true, refl, sym, subst, arith}
use Rattle.std.specs.Prelude.{All}
use Rattle.std.specs.Char.{encode_utf8, is_ascii_alphabetic, is_ascii_alphanumeric}
use Rattle.std.specs.Str.{encode_utf8_all}
use Rattle.std.proofs.lemmas.Bool.Decides.{nat_tests}
use Rattle.std.proofs.lemmas.List.Elements.{All-nil, All-cons, All-head, All-tail, All-append}
use Rattle.std.proofs.lemmas.Str.{encode_ascii}
use Rattle.dl_text.specs.Going.{Goes, stop, go}
use Rattle.dl_runs.specs.declared.runs.Class.{Class}
use Rattle.dl_runs.specs.declared.runs.Class.TheVariants as classes
use Rattle.dl_runs.specs.Classes.{is_of, IsOf, IsMadeOf, IsLongest, IsSubtag, IsTag}

-- an ASCII byte past the space
abbrev pub IsPast : ℕ → Type 0
IsPast b = (32 < b) × (b < 128)

letter_past : (c : ℕ) → is_ascii_alphabetic c ≡ true → (32 < c) × (c < 128)
letter_past c e = (grind (arith, nat_tests), grind (arith, nat_tests))

digit_past : (c : ℕ) → is_ascii_alphanumeric c ≡ true → (32 < c) × (c < 128)
digit_past c e = (grind (arith, nat_tests), grind (arith, nat_tests))

one_past : (c : ℕ) → (32 < c) × (c < 128) → All IsPast (encode_utf8 c)
one_past c h = subst (All IsPast) (sym (encode_ascii c h.1)) (All-cons IsPast c [] h (All-nil IsPast))

all_past : (class : Class) → ((c : ℕ) → is_of class c ≡ true → (32 < c) × (c < 128)) → (cs : List ℕ) → All (IsOf class) cs → All IsPast (encode_utf8_all cs)
all_past class past [] a = All-nil IsPast
all_past class past (c ∷ cs) a =
    All-append IsPast (encode_utf8 c) (encode_utf8_all cs) (one_past c (past c (All-head (IsOf class) c cs a).1)) (all_past class past cs (All-tail (IsOf class) c cs a))

made_past : (class : Class) → ((c : ℕ) → is_of class c ≡ true → (32 < c) × (c < 128)) → (text : List ℕ) → IsMadeOf class text → All IsPast text
made_past class past text (cs, is, a) = subst (All IsPast) (sym is) (all_past class past cs a)

subtags_past : (text : List ℕ) (parts : List (List ℕ)) → Goes IsSubtag text parts [] → All IsPast text
subtags_past text parts (stop s) = All-nil IsPast
subtags_past text parts (go s m e o os (i, k) g) =
    subst (All IsPast) (sym k) (All-cons IsPast 45 (o ++ m) (omega arith, omega arith) (All-append IsPast o m (made_past classes.LetterOrDigit digit_past o i.1) (subtags_past m os g)))

-- a tag has only ASCII bytes past the space
pub tag_past : (tag : List ℕ) → IsTag tag → All IsPast tag
tag_past tag (first, rest, parts, s, g, e) = subst (All IsPast) (sym e) (All-append IsPast first rest (made_past classes.Letter letter_past first s.1) (subtags_past rest parts g))

no_longer : (tag rest other behind : List ℕ) → All IsPast other → tag ++ 32 ∷ rest ≡ other ++ behind → length other ≤ length tag
no_longer tag rest [] behind a e = omega arith
no_longer [] rest (b ∷ other) behind a e = let same : b ≡ 32 = cc in absurd (omega (arith, same, (All-head IsPast b other a).0))
no_longer (t ∷ tag) rest (b ∷ other) behind a e = let on = no_longer tag rest other behind (All-tail IsPast b other a) (cc) in omega (arith, on)

pub tag_ends : (tag rest : List ℕ) → IsTag tag → IsLongest IsTag (tag ++ 32 ∷ rest) tag (32 ∷ rest)
tag_ends tag rest t = record { is = refl; such = t; longest = λ other behind e s. no_longer tag rest other behind (tag_past other s) e }
