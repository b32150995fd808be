-- What the reader of a document says, by cases on its answer. The cases exclude each other, so the answer is the one.
use Rattle.std.specs.Prelude.{◌≡◌, ◌⊎◌, ◌+◌, ℕ, List, [], take, count_by, ◌==◌, Result, Ok, Err}
use Rattle.std.specs.Str.{IsUtf8, IsValidUpTo}
use Rattle.dl_text.specs.declared.kinds.ReadKind.{ReadKind}
use Rattle.dl_text.specs.declared.kinds.ReadKind.TheVariants.{BadUtf8}
use Rattle.dl_text.specs.declared.refusals.ReadRefusal.{ReadRefusal}
use Rattle.dl_text.specs.declared.refusals.ReadRefusal.TheVariants.{Refused, OutOfMemory}
use Rattle.owl_syntax.specs.Grammar.{IsDocument, Stops}
use Rattle.owl_syntax.specs.Shapes.{Token}
use Rattle.owl_syntax.specs.Tokens.{Lexes, IsBadAt, line_of}
use Rattle.owl_syntax.specs.Trees.{Content}

-- the first pass: the first byte that is not UTF-8
pub record IsNoText (bytes : List ℕ) (line : ℕ) (kind : ReadKind) : Type 0 where
  pub place : ℕ
  pub valid : IsValidUpTo bytes place
  pub line_is : line ≡ 1 + count_by (λ b. b == 10) (take place bytes)
  pub kind_is : kind ≡ BadUtf8

-- the second pass: the first place where no token stands, or one with a fault
pub record HasBadToken (bytes : List ℕ) (line : ℕ) (kind : ReadKind) : Type 0 where
  pub tokens : List Token
  pub here : List ℕ
  pub lexes : Lexes bytes tokens here
  pub bad : IsBadAt here kind
  pub line_is : line ≡ line_of bytes here

-- the third pass: the first token with which no document goes on, or the end
pub record IsNoDocument (bytes : List ℕ) (line : ℕ) (kind : ReadKind) : Type 0 where
  pub tokens : List Token
  pub lexes : Lexes bytes tokens []
  pub stops : Stops tokens (line_of bytes []) line kind

-- the second and the third pass
abbrev pub ParsesText : List ℕ → Result Content ReadRefusal → Type 0
ParsesText bytes (Ok content) = (tokens : List Token) × Lexes bytes tokens [] × IsDocument tokens content
ParsesText bytes (Err (Refused line kind)) = HasBadToken bytes line kind ⊎ IsNoDocument bytes line kind
ParsesText bytes (Err OutOfMemory) = Unit {0}

-- Ok: the text is UTF-8, and its tokens are this document. Refused: by the first pass that refuses.
abbrev pub Parses : List ℕ → Result Content ReadRefusal → Type 0
Parses bytes (Ok content) = IsUtf8 bytes × ParsesText bytes (Ok content)
Parses bytes (Err (Refused line kind)) = IsNoText bytes line kind ⊎ (IsUtf8 bytes × ParsesText bytes (Err (Refused line kind)))
Parses bytes (Err OutOfMemory) = Unit {0}
