-- How the text of an update is cut into blanks, comments and tokens: the terminals of SPARQL 1.1, section 19.8.
use Rattle.std.specs.Prelude.{◌≡◌, ◌≢◌, ◌⊎◌, ℕ, List, [], ◌∷◌, ◌++◌, All, Bool, true, false, IsTrue, ◌&&◌, ◌||◌, ◌==◌, if◌then◌else◌, Option, Some, None}
use Rattle.std.specs.Char.{encode_utf8, is_ascii_digit, is_ascii_hexdigit}
use Rattle.dl_text.specs.Going.{Goes}
use Rattle.dl_text.specs.Escapes.{joined, is_local_escape}
use Rattle.dl_text.specs.Values.{digits_of}
use Rattle.dl_runs.specs.declared.runs.Class.{Class}
use Rattle.dl_runs.specs.declared.runs.Class.TheVariants as classes
use Rattle.dl_runs.specs.Classes.{IsOf, IsSome, IsName, IsPrefix, IsTag, IsLongest, IsComment, IsBlank}
use Rattle.update_read.specs.declared.tokens.Mark.{Mark}
use Rattle.update_read.specs.declared.tokens.Mark.TheVariants as marks
use Rattle.update_read.specs.declared.texts.Quotes.{Quotes}
use Rattle.update_read.specs.declared.texts.Quotes.TheVariants as quotes
use Rattle.update_read.specs.Shapes.{Shape, Gap, Variable, Blank, Sign, Number, Iri, Text, Tag, Word, Prefixed}

-- the sign that the byte is
abbrev pub mark_of : ℕ → Option Mark
mark_of b =
    if b == 46 then Some marks.Dot else if b == 44 then Some marks.Comma else if b == 59 then Some marks.Semicolon
    else if b == 123 then Some marks.OpenBrace else if b == 125 then Some marks.CloseBrace
    else if b == 40 || b == 91 then Some marks.Open else if b == 41 || b == 93 then Some marks.Close else None

-- at s stand the quotes that end a string, and behind them rest
abbrev pub EndsAt : ℕ → Quotes → List ℕ → List ℕ → Type 0
EndsAt quote quotes.One s rest = s ≡ quote ∷ rest
EndsAt quote quotes.Three s rest = s ≡ quote ∷ quote ∷ quote ∷ rest

-- in a string of one quote no line ends
abbrev pub MayStand : Quotes → ℕ → Type 0
MayStand quotes.One c = (c ≢ 13) × (c ≢ 10)
MayStand quotes.Three c = Unit {0}

-- inside quotes: a byte where the string doesn't end, or a backslash with the byte behind it
pub data InText (quote : ℕ) (kind : Quotes) (s out m : List ℕ) : Type 0 where
  single : (c : ℕ) → ((rest : List ℕ) → ¬ EndsAt quote kind s rest) → c ≢ 92 → MayStand kind c → s ≡ c ∷ m → out ≡ c ∷ [] → InText quote kind s out m
  pair : (e : ℕ) → MayStand kind e → s ≡ 92 ∷ e ∷ m → out ≡ 92 ∷ e ∷ [] → InText quote kind s out m

-- what stands up to the quotes that end the string, and what behind them
pub record IsQuoted (quote : ℕ) (kind : Quotes) (raw inner rest : List ℕ) : Type 0 where
  pub pieces : List (List ℕ)
  pub end : List ℕ
  pub goes : Goes (InText quote kind) raw pieces end
  pub ends : EndsAt quote kind end rest
  pub is : inner ≡ joined pieces

abbrev pub BeginsTwo : ℕ → List ℕ → Type 0
BeginsTwo quote bs = (after : List ℕ) × (bs ≡ quote ∷ quote ∷ after)

-- behind a quote: where two more stand, what three end, and else what one ends
abbrev pub IsString : ℕ → List ℕ → List ℕ → List ℕ → Type 0
IsString quote bs inner rest =
    ((after : List ℕ) × (bs ≡ quote ∷ quote ∷ after) × IsQuoted quote quotes.Three after inner rest)
    ⊎ ((¬ BeginsTwo quote bs) × IsQuoted quote quotes.One bs inner rest)

-- a piece of a local part: a character of the class, % with two hexadecimal digits, or a backslash with a byte that it may stand before
pub data LocalPiece (class : Class) (s out m : List ℕ) : Type 0 where
  character : (c : ℕ) → IsOf class c → s ≡ encode_utf8 c ++ m → out ≡ encode_utf8 c → LocalPiece class s out m
  percent : (d e : ℕ) → IsTrue (is_ascii_hexdigit d) → IsTrue (is_ascii_hexdigit e) → s ≡ 37 ∷ d ∷ e ∷ m → out ≡ 37 ∷ d ∷ e ∷ [] → LocalPiece class s out m
  escaped : (e : ℕ) → IsTrue (is_local_escape e) → s ≡ 92 ∷ e ∷ m → out ≡ 92 ∷ e ∷ [] → LocalPiece class s out m

-- a local part begins here
abbrev pub BeginsLocal : List ℕ → Type 0
BeginsLocal s = (out m : List ℕ) × LocalPiece classes.LocalStart s out m

-- pieces of a local part up to rest, all that stand there but the dots at their end
pub record IsLocalRun (raw local rest : List ℕ) : Type 0 where
  pub pieces : List (List ℕ)
  pub dots : List ℕ
  pub behind : List ℕ
  pub goes : Goes (LocalPiece classes.Local) raw pieces rest
  pub is : local ≡ joined pieces
  pub last : (front : List (List ℕ)) → pieces ≢ front ++ (46 ∷ []) ∷ []
  pub dotted : rest ≡ dots ++ behind
  pub each_dot : All (λ c. c ≡ 46) dots
  pub ends : (out m : List ℕ) → ¬ LocalPiece classes.Local behind out m

-- the local part in front, as long as it can be
abbrev pub IsLocal : List ℕ → List ℕ → List ℕ → Type 0
IsLocal raw local rest = ((¬ BeginsLocal raw) × (local ≡ []) × (rest ≡ raw)) ⊎ (BeginsLocal raw × IsLocalRun raw local rest)

-- a prefix, a colon and a local part
pub record IsPrefixed (raw prefix local rest : List ℕ) : Type 0 where
  pub after : List ℕ
  pub is : raw ≡ prefix ++ 58 ∷ after
  pub is_prefix : IsPrefix prefix
  pub is_local : IsLocal after local rest

abbrev pub begins_digit : List ℕ → Bool
begins_digit [] = false
begins_digit (b ∷ bs) = is_ascii_digit b

abbrev pub begins_signed : List ℕ → Bool
begins_signed [] = false
begins_signed (b ∷ bs) = is_ascii_digit b || ((b == 43 || b == 45) && begins_digit bs)

-- e or E, an optional sign and a digit
abbrev pub begins_exponent : List ℕ → Bool
begins_exponent [] = false
begins_exponent (b ∷ bs) = (b == 101 || b == 69) && begins_signed bs

-- what makes a decimal or a double of the digits before it
abbrev pub goes_on : List ℕ → Bool
goes_on [] = false
goes_on (b ∷ bs) = (b == 46 && (begins_digit bs || begins_exponent bs)) || begins_exponent (b ∷ bs)

-- an optional sign and digits, with which no decimal and no double begins
pub record IsNumber (raw text rest : List ℕ) : Type 0 where
  pub digits : List ℕ
  pub is : raw ≡ text ++ rest
  pub is_digits : IsLongest (IsSome classes.Digit) (digits_of raw) digits rest
  pub whole : goes_on rest ≡ false

-- where b stands, and bs behind it: a blank or a comment, or a token, and then the rest
abbrev pub CutsAt : ℕ → List ℕ → Shape → List ℕ → Type 0
CutsAt b bs Gap rest = (IsBlank b × (rest ≡ bs)) ⊎ ((b ≡ 35) × IsComment bs rest)
CutsAt b bs Variable rest = ((b ≡ 63) ⊎ (b ≡ 36)) × ((name : List ℕ) × IsLongest (IsName classes.LabelStart classes.Variable) bs name rest)
CutsAt b bs Blank rest = (b ≡ 95) × ((after label : List ℕ) × (bs ≡ 58 ∷ after) × IsLongest (IsName classes.LabelStart classes.Prefix) after label rest)
CutsAt b bs (Sign mark) rest = ((mark_of b ≡ Some mark) × (rest ≡ bs)) ⊎ ((b ≡ 94) × (bs ≡ 94 ∷ rest) × (mark ≡ marks.Hats))
CutsAt b bs (Number text) rest = IsNumber (b ∷ bs) text rest
CutsAt b bs (Iri inner) rest = (b ≡ 60) × (bs ≡ inner ++ 62 ∷ rest) × All (λ c. c ≢ 62) inner
CutsAt b bs (Text inner) rest = ((b ≡ 34) ⊎ (b ≡ 39)) × IsString b bs inner rest
CutsAt b bs (Tag tag) rest = (b ≡ 64) × IsLongest IsTag bs tag rest
CutsAt b bs (Word word) rest = IsLongest (IsSome classes.Letter) (b ∷ bs) word rest × ((prefix after : List ℕ) → b ∷ bs ≡ prefix ++ 58 ∷ after → ¬ IsPrefix prefix)
CutsAt b bs (Prefixed prefix local) rest = IsPrefixed (b ∷ bs) prefix local rest

-- at the front of the text stands this piece, and behind it the rest
abbrev pub Cuts : List ℕ → Shape → List ℕ → Type 0
Cuts [] shape rest = ⊥
Cuts (b ∷ bs) shape rest = CutsAt b bs shape rest
