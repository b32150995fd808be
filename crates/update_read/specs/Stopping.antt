-- Where tokens stop being the front of an update, and which refusal that is.
use Rattle.std.specs.Prelude.{◌≡◌, ◌≢◌, ◌⊎◌, ℕ, List, [], ◌∷◌, ◌++◌}
use Rattle.dl_text.specs.declared.kinds.ReadKind.{ReadKind}
use Rattle.dl_text.specs.declared.kinds.ReadKind.TheVariants as kinds
use Rattle.update_read.specs.declared.syntax.Operation.{Operation}
use Rattle.update_read.specs.declared.tokens.Keyword.{Keyword}
use Rattle.update_read.specs.declared.tokens.Keyword.TheVariants as keywords
use Rattle.update_read.specs.declared.tokens.Mark.TheVariants as marks
use Rattle.update_read.specs.declared.tokens.Token.{Token}
use Rattle.update_read.specs.declared.tokens.Token.TheVariants as tokens
use Rattle.update_read.specs.Grammar.{Statement, word_of, IsUpdate}
use Rattle.update_read.specs.Tokens.{Lexeme, at, line_in}

-- some update begins with these tokens
abbrev pub IsFront : List Lexeme → Type 0
IsFront front = (rest : List Lexeme) × (out : List Statement) × IsUpdate [] (front ++ rest) out

-- behind the front an operation may stand
abbrev pub MayOperate : List Lexeme → Type 0
MayOperate front = IsFront (front ++ at 1 (tokens.Word keywords.Insert) ∷ [])

-- behind the front a group may stand: a subject and the verb `a`
abbrev pub MayGroup : List Lexeme → Type 0
MayGroup front = IsFront (front ++ (at 1 (tokens.Iri []) ∷ at 1 (tokens.Word keywords.A) ∷ []))

-- the front ends with the word of an operation, on this line
abbrev pub EndsWithWord : List Lexeme → ℕ → Type 0
EndsWithWord front line = (before : List Lexeme) × (operation : Operation) × (front ≡ before ++ at line (tokens.Word (word_of operation)) ∷ [])

-- a token that no update has: a variable, or a blank node with a label or in brackets
abbrev pub IsVariable : Token → Type 0
IsVariable token = token ≡ tokens.Variable

abbrev pub IsBlankNode : Token → Type 0
IsBlankNode token = (token ≡ tokens.Blank) ⊎ (token ≡ tokens.Sign marks.Open)

-- a word where an operation may stand, or GRAPH where a group may
abbrev pub IsOtherOperation : List Lexeme → Token → Type 0
IsOtherOperation front token = (((word : Keyword) × (token ≡ tokens.Word word)) × MayOperate front) ⊎ ((token ≡ tokens.Word keywords.Graph) × MayGroup front)

-- why no update goes on with the token behind the front
pub data IsKind (front : List Lexeme) (token : Token) (kind : ReadKind) : Type 0 where
  variable : IsVariable token → kind ≡ kinds.Variable → IsKind front token kind
  blank_node : IsBlankNode token → kind ≡ kinds.BlankNode → IsKind front token kind
  other_operation : IsOtherOperation front token → kind ≡ kinds.OtherOperation → IsKind front token kind
  syntax : ¬ IsVariable token → ¬ IsBlankNode token → ¬ IsOtherOperation front token → kind ≡ kinds.Syntax → IsKind front token kind

-- the refusal behind a front: behind INSERT or DELETE that operation's, else that of what stands there
abbrev pub IsRefusal : List Lexeme → ℕ → (ReadKind → Type 0) → ℕ → ReadKind → Type 0
IsRefusal front here Is line kind =
    (EndsWithWord front line × (kind ≡ kinds.OtherOperation)) ⊎ (((l : ℕ) → ¬ EndsWithWord front l) × (line ≡ here) × Is kind)

-- the first token with which no update goes on
pub record StopsAtToken (all : List Lexeme) (line : ℕ) (kind : ReadKind) : Type 0 where
  pub front : List Lexeme
  pub here : ℕ
  pub token : Token
  pub rest : List Lexeme
  pub is : all ≡ front ++ at here token ∷ rest
  pub good : IsFront front
  pub stuck : ¬ IsFront (front ++ at here token ∷ [])
  pub refusal : IsRefusal front here (IsKind front token) line kind

-- all of them go on, but are no whole update; the text ends on the line end
pub record StopsAtEnd (all : List Lexeme) (end line : ℕ) (kind : ReadKind) : Type 0 where
  pub good : IsFront all
  pub short : (out : List Statement) → ¬ IsUpdate [] all out
  pub refusal : IsRefusal all end (λ k. k ≡ kinds.Syntax) line kind

-- where tokens that are no update stop, and the refusal
abbrev pub Stops : List Lexeme → ℕ → ℕ → ReadKind → Type 0
Stops all end line kind = StopsAtToken all line kind ⊎ StopsAtEnd all end line kind
