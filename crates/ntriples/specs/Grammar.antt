-- The third pass over a line: a line has no token, or is a triple and a dot.
use Rattle.std.specs.Prelude.{◌≡◌, ◌≢◌, ◌⊎◌, List, [], ◌∷◌, ◌++◌, Option, Some, None, Result, Ok, Err}
use Rattle.ntriples.specs.declared.tokens.Token.{Token}
use Rattle.ntriples.specs.declared.tokens.Token.TheVariants.{Iri, Text, Tag, Hats, Dot, Node}
use Rattle.dl_text.specs.declared.kinds.ReadKind.{ReadKind}
use Rattle.dl_text.specs.declared.kinds.ReadKind.TheVariants.{Syntax, BlankNode}
use Rattle.ntriples.specs.declared.grammar.Object.{Object}
use Rattle.ntriples.specs.declared.grammar.Object.TheVariants as objects
use Rattle.ntriples.specs.declared.grammar.Triple.{Triple}
use Rattle.ntriples.specs.declared.grammar.State.{State}
use Rattle.ntriples.specs.declared.grammar.State.TheVariants as states
use Rattle.ntriples.specs.declared.grammar.Progress.{Progress}
use Rattle.ntriples.specs.declared.grammar.Progress.TheVariants.{Going, Stopped}

-- the tokens of an object
abbrev pub object_tokens : Object → List Token
object_tokens (objects.Iri name) = Iri name ∷ []
object_tokens (objects.Plain text) = Text text ∷ []
object_tokens (objects.Typed text datatype) = Text text ∷ Hats ∷ Iri datatype ∷ []
object_tokens (objects.Tagged text tag) = Text text ∷ Tag tag ∷ []

-- the tokens of a line, which has a triple or none: the grammar as a printer
abbrev pub tokens_of : Option Triple → List Token
tokens_of None = []
tokens_of (Some triple) = Iri triple.subject ∷ Iri triple.predicate ∷ (object_tokens triple.object ++ Dot ∷ [])

-- some line begins so
abbrev pub IsViable : List Token → Type 0
IsViable tokens = (rest : List Token) × (line : Option Triple) × (tokens ++ rest ≡ tokens_of line)

abbrev pub kind_at : Token → ReadKind
kind_at Node = BlankNode
kind_at (Iri name) = Syntax
kind_at (Text text) = Syntax
kind_at (Tag tag) = Syntax
kind_at Hats = Syntax
kind_at Dot = Syntax

-- the first token with which no line goes on
pub record StopsAtToken (tokens : List Token) (kind : ReadKind) : Type 0 where
  pub front : List Token
  pub token : Token
  pub rest : List Token
  pub is : tokens ≡ front ++ token ∷ rest
  pub viable : IsViable front
  pub stuck : ¬ IsViable (front ++ token ∷ [])
  pub kind_is : kind ≡ kind_at token

-- all of them go on, but are no whole line
pub record StopsAtEnd (tokens : List Token) (kind : ReadKind) : Type 0 where
  pub viable : IsViable tokens
  pub short : (line : Option Triple) → tokens ≢ tokens_of line
  pub kind_is : kind ≡ Syntax

abbrev pub Stops : List Token → ReadKind → Type 0
Stops tokens kind = StopsAtToken tokens kind ⊎ StopsAtEnd tokens kind

-- the reader's table
abbrev pub after : State → Token → Option State
after states.Start (Iri a) = Some (states.Subject a)
after (states.Subject s) (Iri p) = Some (states.Predicate s p)
after (states.Predicate s p) (Iri o) = Some (states.Linked s p o)
after (states.Predicate s p) (Text t) = Some (states.Valued s p t)
after (states.Linked s p o) Dot = Some (states.Whole (record { subject = s; predicate = p; object = objects.Iri o }))
after (states.Valued s p t) Dot = Some (states.Whole (record { subject = s; predicate = p; object = objects.Plain t }))
after (states.Valued s p t) Hats = Some (states.Typing s p t)
after (states.Valued s p t) (Tag l) = Some (states.Tagged s p t l)
after (states.Typing s p t) (Iri d) = Some (states.Typed s p t d)
after (states.Typed s p t d) Dot = Some (states.Whole (record { subject = s; predicate = p; object = objects.Typed t d }))
after (states.Tagged s p t l) Dot = Some (states.Whole (record { subject = s; predicate = p; object = objects.Tagged t l }))
after state token = None

-- the tokens that a state has gone through
abbrev pub so_far : State → List Token
so_far states.Start = []
so_far (states.Subject s) = Iri s ∷ []
so_far (states.Predicate s p) = Iri s ∷ Iri p ∷ []
so_far (states.Linked s p o) = Iri s ∷ Iri p ∷ Iri o ∷ []
so_far (states.Valued s p t) = Iri s ∷ Iri p ∷ Text t ∷ []
so_far (states.Typing s p t) = Iri s ∷ Iri p ∷ Text t ∷ Hats ∷ []
so_far (states.Typed s p t d) = Iri s ∷ Iri p ∷ Text t ∷ Hats ∷ Iri d ∷ []
so_far (states.Tagged s p t l) = Iri s ∷ Iri p ∷ Text t ∷ Tag l ∷ []
so_far (states.Whole triple) = tokens_of (Some triple)

-- the progress is that of these tokens
abbrev pub Fits : Progress → List Token → Type 0
Fits (Going state) tokens = tokens ≡ so_far state
Fits (Stopped kind) tokens = StopsAtToken tokens kind

-- the third pass on all tokens of a line
abbrev pub Finishes : List Token → Result (Option Triple) ReadKind → Type 0
Finishes tokens (Ok line) = tokens ≡ tokens_of line
Finishes tokens (Err kind) = Stops tokens kind
