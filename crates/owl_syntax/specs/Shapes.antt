-- Blanks, comments and the kinds of tokens.
use Rattle.std.specs.Prelude.{ℕ, List}
use Rattle.owl_syntax.specs.declared.pieces.Piece.{Piece}
use Rattle.owl_syntax.specs.declared.pieces.Piece.TheVariants as pieces

-- a blank or a comment, or a token with the raw text inside it
pub data Shape : Type 0 where
  Gap Open Close Equals Hats : Shape
  Tag Word Iri Blank Digits Text : (raw : List ℕ) → Shape
  Prefixed : (prefix local : List ℕ) → Shape

abbrev pub shape_of : Piece → Shape
shape_of pieces.Gap = Gap
shape_of pieces.Open = Open
shape_of pieces.Close = Close
shape_of pieces.Equals = Equals
shape_of pieces.Hats = Hats
shape_of (pieces.Tag raw) = Tag raw.now
shape_of (pieces.Word raw) = Word raw.now
shape_of (pieces.Iri raw) = Iri raw.now
shape_of (pieces.Prefixed prefix local) = Prefixed prefix.now local.now
shape_of (pieces.Blank raw) = Blank raw.now
shape_of (pieces.Digits raw) = Digits raw.now
shape_of (pieces.Text raw) = Text raw.now

-- a token and the number of its line
pub data Token : Type 0 where
  at : (line : ℕ) (shape : Shape) → Token
