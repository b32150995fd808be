-- The second pass: the tokens of a text from left to right, or the first place where none stands or one has a fault of its own.
use Rattle.std.specs.Prelude.{◌≡◌, ◌≢◌, ◌⊎◌, ◌≤◌, ◌<◌, ◌+◌, ◌-◌, ℕ, List, [], ◌∷◌, length, take, map, count_by, ◌==◌, codes, Option, Some, None, Result, Ok, Err, true, if◌then◌else◌}
use Rattle.std.specs.Char.{to_ascii_lowercase}
use Rattle.std.specs.List.{flat_map}
use Rattle.std.specs.Str.{bytes_eq}
use Rattle.dl_text.specs.Going.{Goes}
use Rattle.dl_text.specs.Kinds.{kind_of}
use Rattle.dl_text.specs.Outcomes.{ReadsIri, ReadsString, longest_text}
use Rattle.dl_text.specs.declared.escapes.Escapes.TheVariants.{Full}
use Rattle.dl_text.specs.declared.faults.TextFault.{TextFault}
use Rattle.dl_text.specs.declared.kinds.ReadKind.{ReadKind}
use Rattle.dl_text.specs.declared.kinds.ReadKind.TheVariants.{Syntax, NameTooLong}
use Rattle.update_read.specs.declared.tokens.Keyword.{Keyword}
use Rattle.update_read.specs.declared.tokens.Keyword.TheVariants as keywords
use Rattle.update_read.specs.declared.tokens.Token.{Token}
use Rattle.update_read.specs.declared.tokens.Token.TheVariants as tokens
use Rattle.update_read.specs.Cutting.{Cuts}
use Rattle.update_read.specs.Shapes.{Shape, Gap, Variable, Blank, Sign, Number, Iri, Text, Tag, Word, Prefixed}

abbrev pub small : List ℕ → List ℕ
small word = map to_ascii_lowercase word

-- what a word is, in any ASCII case but for `a`
abbrev pub keyword_of : List ℕ → Keyword
keyword_of word =
    if bytes_eq word (codes "a") then keywords.A else if bytes_eq (small word) (codes "prefix") then keywords.Prefix
    else if bytes_eq (small word) (codes "base") then keywords.Base else if bytes_eq (small word) (codes "insert") then keywords.Insert
    else if bytes_eq (small word) (codes "delete") then keywords.Delete else if bytes_eq (small word) (codes "data") then keywords.Data
    else if bytes_eq (small word) (codes "graph") then keywords.Graph else if bytes_eq (small word) (codes "true") then keywords.True
    else if bytes_eq (small word) (codes "false") then keywords.False else keywords.Other

-- the piece is this token, with its escapes undone, or no token
abbrev pub Gives : Shape → Option Token → Type 0
Gives Gap token = token ≡ None
Gives Variable token = token ≡ Some tokens.Variable
Gives Blank token = token ≡ Some tokens.Blank
Gives (Sign mark) token = token ≡ Some (tokens.Sign mark)
Gives (Number text) token = (length text ≤ longest_text) × (token ≡ Some (tokens.Number text))
Gives (Iri inner) token = (name : List ℕ) × ReadsIri true inner (Ok name) × (token ≡ Some (tokens.Iri name))
Gives (Text inner) token = (text : List ℕ) × ReadsString Full inner (Ok text) × (token ≡ Some (tokens.Text text))
Gives (Tag tag) token = token ≡ Some (tokens.Tag tag)
Gives (Word word) token = token ≡ Some (tokens.Word (keyword_of word))
Gives (Prefixed prefix local) token = token ≡ Some (tokens.Prefixed prefix local)

-- the token has this fault of its own
abbrev pub HasFault : Shape → ReadKind → Type 0
HasFault Gap kind = ⊥
HasFault Variable kind = ⊥
HasFault Blank kind = ⊥
HasFault (Sign mark) kind = ⊥
HasFault (Number text) kind = (longest_text < length text) × (kind ≡ NameTooLong)
HasFault (Iri inner) kind = (fault : TextFault) × ReadsIri true inner (Err fault) × (kind_of fault ≡ Some kind)
HasFault (Text inner) kind = (fault : TextFault) × ReadsString Full inner (Err fault) × (kind_of fault ≡ Some kind)
HasFault (Tag tag) kind = ⊥
HasFault (Word word) kind = ⊥
HasFault (Prefixed prefix local) kind = ⊥

-- a token and the number of its line
pub data Lexeme : Type 0 where
  at : (line : ℕ) (token : Token) → Lexeme

abbrev pub line_in : Lexeme → ℕ
line_in (at line token) = line

-- the line of the place at which here begins: one more than the LF bytes before it
abbrev pub line_of : List ℕ → List ℕ → ℕ
line_of bytes here = 1 + count_by (λ b. b == 10) (take (length bytes - length here) bytes)

-- a blank or a comment gives no token
abbrev pub lexemes_at : ℕ → Option Token → List Lexeme
lexemes_at line None = []
lexemes_at line (Some token) = at line token ∷ []

-- here stands a piece without a fault, which gives these tokens, and then comes the rest
pub record Stands (bytes here : List ℕ) (out : List Lexeme) (rest : List ℕ) : Type 0 where
  pub shape : Shape
  pub token : Option Token
  pub cuts : Cuts here shape rest
  pub gives : Gives shape token
  pub is : out ≡ lexemes_at (line_of bytes here) token

-- up to here the text has these tokens
pub record Lexes (bytes : List ℕ) (tokens : List Lexeme) (here : List ℕ) : Type 0 where
  pub pieces : List (List Lexeme)
  pub goes : Goes (Stands bytes) bytes pieces here
  pub is : tokens ≡ flat_map (λ (piece : List Lexeme). piece) pieces

-- here no token begins, or one has no end; or the token here has a fault of its own
abbrev pub IsBadAt : List ℕ → ReadKind → Type 0
IsBadAt here kind =
    ((here ≢ []) × ((shape : Shape) (rest : List ℕ) → ¬ Cuts here shape rest) × (kind ≡ Syntax))
    ⊎ ((shape : Shape) × (rest : List ℕ) × Cuts here shape rest × HasFault shape kind)
