-- What the reader's cut of a name gives. No public contract names it.
use Rattle.std.specs.Prelude.{ℕ, List}
use Rattle.dl_runs.specs.declared.runs.Class.TheVariants as classes
use Rattle.dl_runs.specs.Classes.{IsLongest, IsSome}
use Rattle.owl_syntax.specs.Cutting.{IsPrefixed}
use Rattle.owl_syntax.specs.Shapes.{Shape, Gap, Open, Close, Equals, Hats, Tag, Word, Iri, Prefixed, Blank, Digits, Text}

-- a prefixed name stands in front, or else a word
abbrev pub CutsName : List ℕ → Shape → List ℕ → Type 0
CutsName raw (Prefixed prefix local) rest = IsPrefixed raw prefix local rest
CutsName raw (Word word) rest = IsLongest (IsSome classes.Letter) raw word rest × ((prefix local behind : List ℕ) → ¬ IsPrefixed raw prefix local behind)
CutsName raw Gap rest = ⊥
CutsName raw Open rest = ⊥
CutsName raw Close rest = ⊥
CutsName raw Equals rest = ⊥
CutsName raw Hats rest = ⊥
CutsName raw (Tag tag) rest = ⊥
CutsName raw (Iri inner) rest = ⊥
CutsName raw (Blank label) rest = ⊥
CutsName raw (Digits digits) rest = ⊥
CutsName raw (Text inner) rest = ⊥
