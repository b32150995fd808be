-- Blanks, comments and the kinds of tokens of an update.
use Rattle.std.specs.Prelude.{ℕ, List}
use Rattle.update_read.specs.declared.tokens.Mark.{Mark}
use Rattle.update_read.specs.declared.tokens.Piece.{Piece}
use Rattle.update_read.specs.declared.tokens.Piece.TheVariants as pieces

-- a blank or a comment, or a token with the raw text inside it
pub data Shape : Type 0 where
  Gap Variable Blank : Shape
  Sign : (mark : Mark) → Shape
  Number Iri Text Tag Word : (raw : List ℕ) → Shape
  Prefixed : (prefix local : List ℕ) → Shape

abbrev pub shape_of : Piece → Shape
shape_of pieces.Gap = Gap
shape_of pieces.Variable = Variable
shape_of pieces.Blank = Blank
shape_of (pieces.Sign mark) = Sign mark
shape_of (pieces.Number raw) = Number raw.now
shape_of (pieces.Iri raw) = Iri raw.now
shape_of (pieces.Text raw) = Text raw.now
shape_of (pieces.Tag raw) = Tag raw.now
shape_of (pieces.Word raw) = Word raw.now
shape_of (pieces.Prefixed prefix local) = Prefixed prefix.now local.now
