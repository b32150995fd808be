-- Classes of characters, and the names, tags and comments that are made of them.
use Rattle.std.specs.Prelude.{◌≡◌, ◌≢◌, ◌≤◌, ◌⊎◌, ℕ, List, [], ◌∷◌, ◌++◌, length, All, Bool, IsTrue, ◌||◌, ◌&&◌, not, ◌==◌}
use Rattle.std.specs.Char.{encode_utf8, IsScalar, is_ascii_alphabetic, is_ascii_digit, is_ascii_alphanumeric}
use Rattle.std.specs.Str.{encode_utf8_all}
use Rattle.dl_text.specs.Going.{Goes}
use Rattle.dl_text.specs.Characters.{is_pn_base, is_pn_char}
use Rattle.dl_runs.specs.declared.runs.Class.{Class}
use Rattle.dl_runs.specs.declared.runs.Class.TheVariants as classes

-- the character is of the class: an ASCII letter, an ASCII digit, one of both, a base letter, a name character, one of a prefix or label,
-- the first of a local part, one of a local part, the first of a label or variable, one of a variable
abbrev pub is_of : Class → ℕ → Bool
is_of classes.Letter c = is_ascii_alphabetic c
is_of classes.Digit c = is_ascii_digit c
is_of classes.LetterOrDigit c = is_ascii_alphanumeric c
is_of classes.Base c = is_pn_base c
is_of classes.Name c = is_pn_char c
is_of classes.Prefix c = is_pn_char c || c == 46
is_of classes.LocalStart c = is_pn_base c || c == 95 || c == 58 || is_ascii_digit c
is_of classes.Local c = is_pn_char c || c == 46 || c == 58
is_of classes.LabelStart c = is_pn_base c || c == 95 || is_ascii_digit c
is_of classes.Variable c = is_pn_char c && not (c == 45)

abbrev pub IsOf : Class → ℕ → Type 0
IsOf class c = IsScalar c × IsTrue (is_of class c)

-- the text is characters of the class
abbrev pub IsMadeOf : Class → List ℕ → Type 0
IsMadeOf class text = (cs : List ℕ) × (text ≡ encode_utf8_all cs) × All (IsOf class) cs

-- the text begins with a character of the class
abbrev pub BeginsWith : Class → List ℕ → Type 0
BeginsWith class text = (c : ℕ) × (rest : List ℕ) × (text ≡ encode_utf8 c ++ rest) × IsOf class c

-- one or more characters of the class
abbrev pub IsSome : Class → List ℕ → Type 0
IsSome class text = (text ≢ []) × IsMadeOf class text

-- a character of the first class, then ones of the second, and the last is no dot
pub record IsName (first more : Class) (text : List ℕ) : Type 0 where
  pub cs : List ℕ
  pub is : text ≡ encode_utf8_all cs
  pub begins : BeginsWith first text
  pub each : All (IsOf more) cs
  pub ends : (front : List ℕ) → cs ≢ front ++ 46 ∷ []

-- nothing, or a base letter, then name characters and dots, and no dot at the end
abbrev pub IsPrefix : List ℕ → Type 0
IsPrefix text = (text ≡ []) ⊎ IsName classes.Base classes.Prefix text

-- a base letter, a low line or a digit, then name characters and dots, and no dot at the end: a blank node's label of N-Triples and SPARQL
abbrev pub IsLabel : List ℕ → Type 0
IsLabel text = IsName classes.LabelStart classes.Prefix text

-- at raw stands a hyphen with letters and digits
abbrev pub IsSubtag : List ℕ → List ℕ → List ℕ → Type 0
IsSubtag raw part rest = IsSome classes.LetterOrDigit part × (raw ≡ 45 ∷ (part ++ rest))

-- letters, then any number of hyphens with letters and digits
abbrev pub IsTag : List ℕ → Type 0
IsTag text = (first rest : List ℕ) × (parts : List (List ℕ)) × IsSome classes.Letter first × Goes IsSubtag rest parts [] × (text ≡ first ++ rest)

-- part is the longest front of raw that is such a text, and rest is what follows it
pub record IsLongest (Is : List ℕ → Type 0) (raw part rest : List ℕ) : Type 0 where
  pub is : raw ≡ part ++ rest
  pub such : Is part
  pub longest : (other behind : List ℕ) → raw ≡ other ++ behind → Is other → length other ≤ length part

-- nothing, or CR or LF in front
abbrev pub EndsLine : List ℕ → Type 0
EndsLine [] = Unit {0}
EndsLine (b ∷ bs) = (b ≡ 13) ⊎ (b ≡ 10)

-- the rest of a comment, up to the end of its line
pub record IsComment (raw rest : List ℕ) : Type 0 where
  pub inner : List ℕ
  pub is : raw ≡ inner ++ rest
  pub inside : All (λ c. (c ≢ 13) × (c ≢ 10)) inner
  pub ends : EndsLine rest

abbrev pub IsBlank : ℕ → Type 0
IsBlank b = (b ≡ 32) ⊎ ((b ≡ 9) ⊎ ((b ≡ 10) ⊎ (b ≡ 13)))
