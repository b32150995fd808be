-- How a text is cut into blanks, comments and tokens.
use Rattle.std.specs.Prelude.{◌≡◌, ◌≢◌, ◌⊎◌, ℕ, List, [], ◌∷◌, ◌++◌, All}
use Rattle.dl_runs.specs.declared.runs.Class.TheVariants as classes
use Rattle.dl_runs.specs.Classes.{IsName, IsPrefix, IsSome, IsTag, IsLongest, IsComment, IsBlank}
use Rattle.dl_runs.specs.Quotes.{IsQuoted}
use Rattle.owl_syntax.specs.Shapes.{Shape, Gap, Open, Close, Equals, Hats, Tag, Word, Iri, Prefixed, Blank, Digits, Text}

-- nothing, or a base letter, _ : or a digit, then name characters, dots and colons, and no dot at the end
abbrev pub IsLocal : List ℕ → Type 0
IsLocal text = (text ≡ []) ⊎ IsName classes.LocalStart classes.Local text

-- a prefix, a colon and a local part, as long as it can be
pub record IsPrefixed (raw prefix local rest : List ℕ) : Type 0 where
  pub after : List ℕ
  pub is : raw ≡ prefix ++ 58 ∷ after
  pub is_prefix : IsPrefix prefix
  pub is_local : IsLongest IsLocal after local rest

-- where b stands, and bs behind it: a blank or a comment, or a token, and then the rest
abbrev pub CutsAt : ℕ → List ℕ → Shape → List ℕ → Type 0
CutsAt b bs Gap rest = (IsBlank b × (rest ≡ bs)) ⊎ ((b ≡ 35) × IsComment bs rest)
CutsAt b bs Open rest = (b ≡ 40) × (rest ≡ bs)
CutsAt b bs Close rest = (b ≡ 41) × (rest ≡ bs)
CutsAt b bs Equals rest = (b ≡ 61) × (rest ≡ bs)
CutsAt b bs Hats rest = (b ≡ 94) × (bs ≡ 94 ∷ rest)
CutsAt b bs (Tag tag) rest = (b ≡ 64) × IsLongest IsTag bs tag rest
CutsAt b bs (Iri inner) rest = (b ≡ 60) × (bs ≡ inner ++ 62 ∷ rest) × All (λ c. c ≢ 62) inner
CutsAt b bs (Text inner) rest = (b ≡ 34) × IsQuoted bs inner rest
CutsAt b bs (Blank label) rest = (b ≡ 95) × ((after : List ℕ) × (bs ≡ 58 ∷ after) × IsLongest (IsSome classes.Name) after label rest)
CutsAt b bs (Digits digits) rest = IsLongest (IsSome classes.Digit) (b ∷ bs) digits rest
CutsAt b bs (Prefixed prefix local) rest = IsPrefixed (b ∷ bs) prefix local rest
CutsAt b bs (Word word) rest = IsLongest (IsSome classes.Letter) (b ∷ bs) word rest × ((prefix local behind : List ℕ) → ¬ IsPrefixed (b ∷ bs) prefix local behind)

-- at the front of the text stands this piece, and behind it the rest
abbrev pub Cuts : List ℕ → Shape → List ℕ → Type 0
Cuts [] shape rest = ⊥
Cuts (b ∷ bs) shape rest = CutsAt b bs shape rest
