-- The second pass: the tokens of a text from left to right, or the first place where none stands or one has a fault of its own.
use Rattle.std.specs.Prelude.{◌≡◌, ◌≢◌, ◌⊎◌, ◌+◌, ◌-◌, ℕ, List, [], ◌∷◌, length, take, count_by, ◌==◌, Some, Ok, Err, false}
use Rattle.std.specs.List.{flat_map}
use Rattle.dl_text.specs.Going.{Goes}
use Rattle.dl_text.specs.Kinds.{kind_of}
use Rattle.dl_text.specs.Outcomes.{ReadsIri, ReadsString}
use Rattle.dl_text.specs.declared.escapes.Escapes.TheVariants.{Owl}
use Rattle.dl_text.specs.declared.faults.TextFault.{TextFault}
use Rattle.dl_text.specs.declared.kinds.ReadKind.{ReadKind}
use Rattle.dl_text.specs.declared.kinds.ReadKind.TheVariants.{Syntax}
use Rattle.owl_syntax.specs.Cutting.{Cuts}
use Rattle.owl_syntax.specs.Shapes.{Shape, Gap, Open, Close, Equals, Hats, Tag, Word, Iri, Prefixed, Blank, Digits, Text, Token, at}

-- what stands inside the token is as it must be
abbrev pub IsSound : Shape → Type 0
IsSound (Iri inner) = ReadsIri false inner (Ok inner)
IsSound (Text inner) = (text : List ℕ) × ReadsString Owl inner (Ok text)
IsSound Gap = Unit {0}
IsSound Open = Unit {0}
IsSound Close = Unit {0}
IsSound Equals = Unit {0}
IsSound Hats = Unit {0}
IsSound (Tag tag) = Unit {0}
IsSound (Word word) = Unit {0}
IsSound (Prefixed prefix local) = Unit {0}
IsSound (Blank label) = Unit {0}
IsSound (Digits digits) = Unit {0}

-- the token has this fault of its own
abbrev pub HasFault : Shape → ReadKind → Type 0
HasFault (Iri inner) kind = (fault : TextFault) × ReadsIri false inner (Err fault) × (kind_of fault ≡ Some kind)
HasFault (Text inner) kind = (fault : TextFault) × ReadsString Owl inner (Err fault) × (kind_of fault ≡ Some kind)
HasFault Gap kind = ⊥
HasFault Open kind = ⊥
HasFault Close kind = ⊥
HasFault Equals kind = ⊥
HasFault Hats kind = ⊥
HasFault (Tag tag) kind = ⊥
HasFault (Word word) kind = ⊥
HasFault (Prefixed prefix local) kind = ⊥
HasFault (Blank label) kind = ⊥
HasFault (Digits digits) kind = ⊥

-- the line of the place at which here begins: one more than the LF bytes before it
abbrev pub line_of : List ℕ → List ℕ → ℕ
line_of bytes here = 1 + count_by (λ b. b == 10) (take (length bytes - length here) bytes)

-- a blank or a comment gives no token
abbrev pub tokens_at : ℕ → Shape → List Token
tokens_at line Gap = []
tokens_at line shape = at line shape ∷ []

-- here stands a piece without a fault, which gives these tokens, and then comes the rest
abbrev pub Stands : List ℕ → List ℕ → List Token → List ℕ → Type 0
Stands bytes here out rest = (shape : Shape) × Cuts here shape rest × IsSound shape × (out ≡ tokens_at (line_of bytes here) shape)

-- up to here the text has these tokens
pub record Lexes (bytes : List ℕ) (tokens : List Token) (here : List ℕ) : Type 0 where
  pub pieces : List (List Token)
  pub goes : Goes (Stands bytes) bytes pieces here
  pub is : tokens ≡ flat_map (λ (piece : List Token). piece) pieces

-- here no token begins, or one has no end; or the token here has a fault of its own
abbrev pub IsBadAt : List ℕ → ReadKind → Type 0
IsBadAt here kind =
    ((here ≢ []) × ((shape : Shape) (rest : List ℕ) → ¬ Cuts here shape rest) × (kind ≡ Syntax))
    ⊎ ((shape : Shape) × (rest : List ℕ) × Cuts here shape rest × HasFault shape kind)
