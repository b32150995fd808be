-- How a line is cut into pieces.
use Rattle.std.specs.Prelude.{◌≡◌, ◌≢◌, ◌⊎◌, ℕ, List, [], ◌∷◌, ◌++◌, All}
use Rattle.dl_runs.specs.Classes.{IsLabel, IsLongest, IsTag}
use Rattle.dl_runs.specs.Quotes.{IsQuoted}
use Rattle.ntriples.specs.declared.pieces.Piece.{Piece}
use Rattle.ntriples.specs.declared.pieces.Piece.TheVariants as pieces

-- a blank or a comment, or a token with the raw text inside it
pub data Shape : Type 0 where
  Gap Dot Hats : Shape
  IriOf TextOf TagOf NodeOf : (inner : List ℕ) → Shape

abbrev pub shape_of : Piece → Shape
shape_of pieces.Gap = Gap
shape_of pieces.Dot = Dot
shape_of pieces.Hats = Hats
shape_of (pieces.Iri inner) = IriOf inner.now
shape_of (pieces.Text inner) = TextOf inner.now
shape_of (pieces.Tag inner) = TagOf inner.now
shape_of (pieces.Node inner) = NodeOf inner.now

-- behind the first byte b stand bs: a space, a tab or a comment, . ^^ an IRI up to >, a string, a tag, or a blank node, and then the rest
abbrev pub CutsAt : ℕ → List ℕ → Shape → List ℕ → Type 0
CutsAt b bs Gap rest = (((b ≡ 32) ⊎ (b ≡ 9)) × (rest ≡ bs)) ⊎ ((b ≡ 35) × (rest ≡ []))
CutsAt b bs Dot rest = (b ≡ 46) × (rest ≡ bs)
CutsAt b bs Hats rest = (b ≡ 94) × (bs ≡ 94 ∷ rest)
CutsAt b bs (IriOf inner) rest = (b ≡ 60) × (bs ≡ inner ++ 62 ∷ rest) × All (λ c. c ≢ 62) inner
CutsAt b bs (TextOf inner) rest = (b ≡ 34) × IsQuoted bs inner rest
CutsAt b bs (TagOf inner) rest = (b ≡ 64) × IsLongest IsTag bs inner rest
CutsAt b bs (NodeOf label) rest = (b ≡ 95) × ((after : List ℕ) × (bs ≡ 58 ∷ after) × IsLongest IsLabel after label rest)

-- at the front of the line stands this piece, and behind it the rest
abbrev pub Cuts : List ℕ → Shape → List ℕ → Type 0
Cuts [] shape rest = ⊥
Cuts (b ∷ bs) shape rest = CutsAt b bs shape rest
