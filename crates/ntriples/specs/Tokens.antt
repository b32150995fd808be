-- The second pass over a line: its tokens from left to right, or the first that is no token or has a fault of its own.
use Rattle.std.specs.Prelude.{◌≡◌, ◌≢◌, ◌⊎◌, ℕ, List, [], ◌∷◌, true, Option, Some, None, Result, Ok, Err}
use Rattle.std.specs.List.{flat_map}
use Rattle.dl_text.specs.Going.{Goes}
use Rattle.dl_text.specs.Outcomes.{ReadsIri, ReadsString}
use Rattle.dl_text.specs.declared.escapes.Escapes.TheVariants as escapes
use Rattle.dl_text.specs.declared.faults.TextFault.{TextFault}
use Rattle.ntriples.specs.declared.tokens.Token.{Token}
use Rattle.ntriples.specs.declared.tokens.Token.TheVariants as tokens
use Rattle.ntriples.specs.declared.faults.LineFault.{LineFault}
use Rattle.ntriples.specs.declared.faults.LineFault.TheVariants.{Refused, OutOfMemory}
use Rattle.dl_text.specs.declared.kinds.ReadKind.{ReadKind}
use Rattle.dl_text.specs.declared.kinds.ReadKind.TheVariants.{Syntax}
use Rattle.dl_text.specs.Kinds.{kind_of}
use Rattle.ntriples.specs.Cutting.{Shape, Gap, Dot, Hats, IriOf, TextOf, TagOf, NodeOf, Cuts}

-- a piece gives no token or one
abbrev pub Gives : Shape → List Token → Type 0
Gives Gap out = out ≡ []
Gives Dot out = out ≡ tokens.Dot ∷ []
Gives Hats out = out ≡ tokens.Hats ∷ []
Gives (NodeOf label) out = out ≡ tokens.Node ∷ []
Gives (IriOf inner) out = (name : List ℕ) × ReadsIri true inner (Ok name) × (out ≡ tokens.Iri name ∷ [])
Gives (TextOf inner) out = (text : List ℕ) × ReadsString escapes.Full inner (Ok text) × (out ≡ tokens.Text text ∷ [])
Gives (TagOf inner) out = out ≡ tokens.Tag inner ∷ []

-- a token has this fault
abbrev pub HasFault : Shape → ReadKind → Type 0
HasFault (IriOf inner) kind = (f : TextFault) × ReadsIri true inner (Err f) × (kind_of f ≡ Some kind)
HasFault (TextOf inner) kind = (f : TextFault) × ReadsString escapes.Full inner (Err f) × (kind_of f ≡ Some kind)
HasFault Gap kind = ⊥
HasFault Dot kind = ⊥
HasFault Hats kind = ⊥
HasFault (NodeOf label) kind = ⊥
HasFault (TagOf inner) kind = ⊥

-- at the front of the line stands a piece that gives these tokens
abbrev pub Stands : List ℕ → List Token → List ℕ → Type 0
Stands line out rest = (shape : Shape) × Cuts line shape rest × Gives shape out

-- up to here the line has these tokens
pub record Lexes (line : List ℕ) (tokens : List Token) (here : List ℕ) : Type 0 where
  pub pieces : List (List Token)
  pub goes : Goes Stands line pieces here
  pub is : tokens ≡ flat_map (λ (piece : List Token). piece) pieces

-- here no token begins, or one has no end; or the token here has a fault of its own
abbrev pub IsBadAt : List ℕ → ReadKind → Type 0
IsBadAt here kind =
    ((here ≢ []) × ((shape : Shape) (rest : List ℕ) → ¬ Cuts here shape rest) × (kind ≡ Syntax))
    ⊎ ((shape : Shape) × (rest : List ℕ) × Cuts here shape rest × HasFault shape kind)

abbrev pub list_of : Option Token → List Token
list_of None = []
list_of (Some token) = token ∷ []

abbrev pub IsToken : Shape → Result (Option Token) LineFault → Type 0
IsToken shape (Ok token) = Gives shape (list_of token)
IsToken shape (Err (Refused kind)) = HasFault shape kind
IsToken shape (Err OutOfMemory) = Unit {0}
