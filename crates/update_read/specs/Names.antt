-- What the cuts of words and numbers give. No public contract names it.
use Rattle.std.specs.Prelude.{◌≡◌, ◌⊎◌, ℕ, List, ◌∷◌, ◌++◌, true}
use Rattle.std.specs.Char.{is_ascii_digit}
use Rattle.dl_runs.specs.Classes.{IsSome, IsPrefix, IsLongest}
use Rattle.dl_runs.specs.declared.runs.Class.TheVariants as classes
use Rattle.update_read.specs.Cutting.{IsPrefixed}
use Rattle.update_read.specs.Shapes.{Shape, Gap, Variable, Blank, Sign, Number, Iri, Text, Tag, Word, Prefixed}

-- a digit or a sign
abbrev pub BeginsNumber : ℕ → Type 0
BeginsNumber b = (is_ascii_digit b ≡ true) ⊎ ((b ≡ 43) ⊎ (b ≡ 45))

-- a prefixed name stands in front, or else a word
abbrev pub CutsName : List ℕ → Shape → List ℕ → Type 0
CutsName raw (Prefixed prefix local) rest = IsPrefixed raw prefix local rest
CutsName raw (Word word) rest = IsLongest (IsSome classes.Letter) raw word rest × ((prefix after : List ℕ) → raw ≡ prefix ++ 58 ∷ after → ¬ IsPrefix prefix)
CutsName raw Gap rest = ⊥
CutsName raw Variable rest = ⊥
CutsName raw Blank rest = ⊥
CutsName raw (Sign m) rest = ⊥
CutsName raw (Number t) rest = ⊥
CutsName raw (Iri t) rest = ⊥
CutsName raw (Text t) rest = ⊥
CutsName raw (Tag t) rest = ⊥
