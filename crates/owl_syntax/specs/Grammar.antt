-- The third pass: which tokens are a document, and where tokens stop being the front of one.
use Rattle.std.specs.Prelude.{◌≡◌, ◌<◌, ◌≤◌, ◌+◌, ◌⊎◌, ℕ, List, [], ◌∷◌, ◌++◌, Bool, true, false, cond, ◌&&◌, ◌==◌, count_by, codes}
use Rattle.std.specs.List.{list_any}
use Rattle.std.specs.Str.{bytes_eq}
use Rattle.dl_text.specs.declared.kinds.ReadKind.{ReadKind}
use Rattle.dl_text.specs.declared.kinds.ReadKind.TheVariants.{Syntax, TooDeep}
use Rattle.owl_syntax.specs.declared.nodes.PrefixLine.{PrefixLine}
use Rattle.owl_syntax.specs.Shapes.{Open, Close, Equals, Hats, Tag, Word, Iri, Prefixed, Blank, Digits, Text, Token, at}
use Rattle.owl_syntax.specs.Trees.{Datatype, untyped, other, by_iri, by_name, Leaf, iri, blank, digits, prefixed, literal, Forest, none, leaf, word, group, Content}

-- the token that names this datatype
abbrev pub IsDatatype : Token → Datatype → Type 0
IsDatatype token untyped = ⊥
IsDatatype token other = ⊥
IsDatatype token (by_iri line text) = token ≡ at line (Iri text)
IsDatatype token (by_name line prefix local) = token ≡ at line (Prefixed prefix local)

-- what may stand behind a string: nothing, a tag, or ^^ and a datatype
pub data Ends (tokens : List Token) (tag : List ℕ) (datatype : Datatype) : Type 0 where
  bare : tokens ≡ [] → tag ≡ [] → datatype ≡ untyped → Ends tokens tag datatype
  tagged : (line : ℕ) → tokens ≡ at line (Tag tag) ∷ [] → datatype ≡ untyped → Ends tokens tag datatype
  typed : (line : ℕ) (token : Token) → tokens ≡ at line Hats ∷ token ∷ [] → tag ≡ [] → IsDatatype token datatype → Ends tokens tag datatype

-- these tokens are a name, a number or a literal
abbrev pub SpellsLeaf : List Token → Leaf → Type 0
SpellsLeaf tokens (iri line text) = tokens ≡ at line (Iri text) ∷ []
SpellsLeaf tokens (prefixed line prefix local) = tokens ≡ at line (Prefixed prefix local) ∷ []
SpellsLeaf tokens (blank line label) = tokens ≡ at line (Blank label) ∷ []
SpellsLeaf tokens (digits line text) = tokens ≡ at line (Digits text) ∷ []
SpellsLeaf tokens (literal line text tag datatype) = (ends : List Token) × (tokens ≡ at line (Text text) ∷ ends) × Ends ends tag datatype

-- these tokens are these nodes
pub data Spells : List Token → Forest → Type 0 where
  nothing : (tokens : List Token) (nodes : Forest) → tokens ≡ [] → nodes ≡ none → Spells tokens nodes
  one_leaf : (tokens : List Token) (nodes : Forest) (ts us : List Token) (before : Forest) (it : Leaf)
      → Spells ts before → SpellsLeaf us it → tokens ≡ ts ++ us → nodes ≡ leaf before it → Spells tokens nodes
  one_word : (tokens : List Token) (nodes : Forest) (ts us : List Token) (before args : Forest) (line opens close : ℕ) (text : List ℕ)
      → Spells ts before → Spells us args
      → tokens ≡ ts ++ (at line (Word text) ∷ at opens Open ∷ (us ++ at close Close ∷ [])) → nodes ≡ word before line text args → Spells tokens nodes
  one_group : (tokens : List Token) (nodes : Forest) (ts us : List Token) (before args : Forest) (line close : ℕ)
      → Spells ts before → Spells us args
      → tokens ≡ ts ++ (at line Open ∷ (us ++ at close Close ∷ [])) → nodes ≡ group before line args → Spells tokens nodes

-- the parts of the frame: imports, then annotations, then axioms
abbrev pub rank_of : List ℕ → ℕ
rank_of text = cond (bytes_eq text (codes "Import")) 2 (cond (bytes_eq text (codes "Annotation")) 3 4)

-- at most two names, then words whose ranks never fall; rank is that of the last, and a name's is its number
abbrev pub InOrder : Forest → ℕ → Type 0
InOrder none rank = rank ≡ 0
InOrder (leaf before (iri line text)) rank = (r : ℕ) × InOrder before r × (r < 2) × (rank ≡ r + 1)
InOrder (leaf before (prefixed line prefix local)) rank = (r : ℕ) × InOrder before r × (r < 2) × (rank ≡ r + 1)
InOrder (leaf before (blank line label)) rank = ⊥
InOrder (leaf before (digits line text)) rank = ⊥
InOrder (leaf before (literal line text tag datatype)) rank = ⊥
InOrder (word before line text args) rank = (r : ℕ) × InOrder before r × (r ≤ rank_of text) × (rank ≡ rank_of text)
InOrder (group before line args) rank = ⊥

-- whether a prefix line has the name
abbrev pub has_name : List PrefixLine → List ℕ → Bool
has_name lines sought = list_any (λ (line : PrefixLine). bytes_eq sought line.name) lines

-- Prefix( name: = <iri> )
pub record SpellsLine (tokens : List Token) (line : PrefixLine) : Type 0 where
  pub opens : ℕ
  pub named : ℕ
  pub equals : ℕ
  pub valued : ℕ
  pub close : ℕ
  pub is : tokens ≡ at line.line (Word (codes "Prefix")) ∷ at opens Open ∷ at named (Prefixed line.name []) ∷ at equals Equals ∷ at valued (Iri line.iri) ∷ at close Close ∷ []

-- prefix lines, no two of one name
pub data SpellsLines : List Token → List PrefixLine → Type 0 where
  no_line : (tokens : List Token) (lines : List PrefixLine) → tokens ≡ [] → lines ≡ [] → SpellsLines tokens lines
  one_line : (tokens : List Token) (lines : List PrefixLine) (ts us : List Token) (before : List PrefixLine) (line : PrefixLine)
      → SpellsLines ts before → SpellsLine us line → has_name before line.name ≡ false
      → tokens ≡ ts ++ us → lines ≡ before ++ line ∷ [] → SpellsLines tokens lines

-- these tokens are this document: prefix lines, then Ontology( .. ) with its parts in order
pub record SpellsDocument (tokens : List Token) (content : Content) : Type 0 where
  pub front : List Token
  pub inside : List Token
  pub line : ℕ
  pub opens : ℕ
  pub close : ℕ
  pub args : Forest
  pub rank : ℕ
  pub is : tokens ≡ front ++ (at line (Word (codes "Ontology")) ∷ at opens Open ∷ (inside ++ at close Close ∷ []))
  pub lines : SpellsLines front content.prefixes
  pub nodes : Spells inside args
  pub in_order : InOrder args rank
  pub root : content.root ≡ word none line (codes "Ontology") args

abbrev pub is_open : Token → Bool
is_open (at line Open) = true
is_open (at line shape) = false

abbrev pub is_close : Token → Bool
is_close (at line Close) = true
is_close (at line shape) = false

-- how many parentheses may be open at once
abbrev pub deepest : ℕ
deepest = 16

-- nowhere are more parentheses open than may be
abbrev pub IsShallow : List Token → Type 0
IsShallow tokens = (front rest : List Token) → tokens ≡ front ++ rest → count_by is_open front ≤ deepest + count_by is_close front

-- these tokens are this document, nested no deeper than it may be
abbrev pub IsDocument : List Token → Content → Type 0
IsDocument tokens content = IsShallow tokens × SpellsDocument tokens content

-- these tokens are nested no deeper than they may be, and some text of the grammar begins so
abbrev pub IsFront : List Token → Type 0
IsFront tokens = IsShallow tokens × ((rest : List Token) × (content : Content) × SpellsDocument (tokens ++ rest) content)

-- the seventeenth open parenthesis is too deep; every other token is a fault of syntax
abbrev pub kind_at : List Token → Token → ReadKind
kind_at front token = cond (is_open token && count_by is_open front == deepest + count_by is_close front) TooDeep Syntax

abbrev pub line_at : Token → ℕ
line_at (at line shape) = line

-- the first token with which no document goes on
pub record StopsAtToken (tokens : List Token) (line : ℕ) (kind : ReadKind) : Type 0 where
  pub front : List Token
  pub token : Token
  pub rest : List Token
  pub is : tokens ≡ front ++ token ∷ rest
  pub good : IsFront front
  pub stuck : ¬ IsFront (front ++ token ∷ [])
  pub line_is : line ≡ line_at token
  pub kind_is : kind ≡ kind_at front token

-- all of them go on, but are no whole document
pub record StopsAtEnd (tokens : List Token) : Type 0 where
  pub good : IsFront tokens
  pub short : (content : Content) → ¬ IsDocument tokens content

-- where tokens that are no document stop; end is the line where the text ends
abbrev pub Stops : List Token → ℕ → ℕ → ReadKind → Type 0
Stops tokens end line kind = StopsAtToken tokens line kind ⊎ (StopsAtEnd tokens × (line ≡ end) × (kind ≡ Syntax))
