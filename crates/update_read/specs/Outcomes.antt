-- What the reader of an update says, by cases on its answer. The cases exclude each other, so the answer is the one.
use Rattle.std.specs.Prelude.{◌≡◌, ◌⊎◌, ◌+◌, ℕ, List, [], All, take, count_by, ◌==◌, Result, Ok, Err}
use Rattle.std.specs.Str.{IsUtf8, IsValidUpTo}
use Rattle.dl_base.specs.Ontologies.{Theory, Knows}
use Rattle.dl_text.specs.declared.kinds.ReadKind.{ReadKind}
use Rattle.dl_text.specs.declared.kinds.ReadKind.TheVariants.{BadUtf8}
use Rattle.dl_text.specs.declared.refusals.ReadRefusal.{ReadRefusal}
use Rattle.dl_text.specs.declared.refusals.ReadRefusal.TheVariants.{Refused, OutOfMemory}
use Rattle.update_read.specs.declared.reading.ReadUpdate.{ReadUpdate}
use Rattle.update_read.specs.Grammar.{Statement, IsUpdate}
use Rattle.update_read.specs.Meaning.{Means, IsRefusedBy}
use Rattle.update_read.specs.Stopping.{Stops}
use Rattle.update_read.specs.Tokens.{Lexeme, Lexes, IsBadAt, line_of}

-- the first pass: the first byte that is not UTF-8
pub record IsNoText (bytes : List ℕ) (line : ℕ) (kind : ReadKind) : Type 0 where
  pub place : ℕ
  pub valid : IsValidUpTo bytes place
  pub line_is : line ≡ 1 + count_by (λ b. b == 10) (take place bytes)
  pub kind_is : kind ≡ BadUtf8

-- the second pass: the first place where no token stands, or one with a fault
pub record HasBadToken (bytes : List ℕ) (line : ℕ) (kind : ReadKind) : Type 0 where
  pub tokens : List Lexeme
  pub here : List ℕ
  pub lexes : Lexes bytes tokens here
  pub bad : IsBadAt here kind
  pub line_is : line ≡ line_of bytes here

-- the third pass: the first token with which no update goes on, or the end
pub record IsNoUpdate (bytes : List ℕ) (line : ℕ) (kind : ReadKind) : Type 0 where
  pub tokens : List Lexeme
  pub lexes : Lexes bytes tokens []
  pub stops : Stops tokens (line_of bytes []) line kind

-- the text is an update with these triples
pub record Parses (bytes : List ℕ) (statements : List Statement) : Type 0 where
  pub tokens : List Lexeme
  pub lexes : Lexes bytes tokens []
  pub is_update : IsUpdate [] tokens statements

-- the second, the third and the fourth pass
abbrev pub ReadsText : Theory → List ℕ → Result ReadUpdate ReadRefusal → Type 0
ReadsText theory bytes (Ok update) = (statements : List Statement) × Parses bytes statements × Means theory statements update
ReadsText theory bytes (Err (Refused line kind)) =
    HasBadToken bytes line kind ⊎ (IsNoUpdate bytes line kind ⊎ ((statements : List Statement) × Parses bytes statements × IsRefusedBy theory statements line kind))
ReadsText theory bytes (Err OutOfMemory) = Unit {0}

-- Ok: the text is UTF-8 and an update, and these are its facts. Refused: by the first pass that refuses.
abbrev pub ReadsUpdate : Theory → List ℕ → Result ReadUpdate ReadRefusal → Type 0
ReadsUpdate theory bytes (Ok update) = IsUtf8 bytes × ReadsText theory bytes (Ok update)
ReadsUpdate theory bytes (Err (Refused line kind)) = IsNoText bytes line kind ⊎ (IsUtf8 bytes × ReadsText theory bytes (Err (Refused line kind)))
ReadsUpdate theory bytes (Err OutOfMemory) = Unit {0}

-- the facts of the update are over terms of the ontology
abbrev pub KnowsUpdate : Theory → ReadUpdate → Type 0
KnowsUpdate theory update = All (Knows theory) update.inserts × All (Knows theory) update.deletes
