-- The third pass: which tokens are an update. The productions are those of SPARQL 1.1 Update for ground data.
use Rattle.std.specs.Prelude.{◌≡◌, ◌⊎◌, ℕ, List, [], ◌∷◌, ◌++◌, map, codes, Option, Some, None}
use Rattle.std.specs.List.{flat_map}
use Rattle.dl_text.specs.Going.{Goes}
use Rattle.dl_text.specs.Prefixes.{Bindings, with_prefix}
use Rattle.update_read.specs.declared.syntax.Operation.{Operation}
use Rattle.update_read.specs.declared.syntax.Operation.TheVariants as operations
use Rattle.update_read.specs.declared.syntax.SpelledName.{SpelledName}
use Rattle.update_read.specs.declared.syntax.SpelledName.TheVariants.{Full, Short}
use Rattle.update_read.specs.declared.syntax.SpelledVerb.{SpelledVerb}
use Rattle.update_read.specs.declared.syntax.SpelledVerb.TheVariants as verbs
use Rattle.update_read.specs.declared.syntax.SpelledDatatype.{SpelledDatatype}
use Rattle.update_read.specs.declared.syntax.SpelledDatatype.TheVariants as datatypes
use Rattle.update_read.specs.declared.syntax.SpelledObject.{SpelledObject}
use Rattle.update_read.specs.declared.syntax.SpelledObject.TheVariants as objects
use Rattle.update_read.specs.declared.syntax.Stem.{Stem}
use Rattle.update_read.specs.declared.tokens.Keyword.{Keyword}
use Rattle.update_read.specs.declared.tokens.Keyword.TheVariants as keywords
use Rattle.update_read.specs.declared.tokens.Mark.{Mark}
use Rattle.update_read.specs.declared.tokens.Mark.TheVariants as marks
use Rattle.update_read.specs.declared.tokens.Token.{Token}
use Rattle.update_read.specs.declared.tokens.Token.TheVariants as tokens
use Rattle.update_read.specs.Tokens.{Lexeme, at}

-- what a token is: a sign, a word, a tag, a full IRI, the name of a prefix
abbrev pub sign_in : Token → Option Mark
sign_in (tokens.Sign m) = Some m
sign_in token = None

abbrev pub word_in : Token → Option Keyword
word_in (tokens.Word w) = Some w
word_in token = None

abbrev pub tag_in : Token → Option (List ℕ)
tag_in (tokens.Tag text) = Some text
tag_in token = None

abbrev pub iri_in : Token → Option (List ℕ)
iri_in (tokens.Iri name) = Some name
iri_in token = None

abbrev pub prefix_in : Token → Option (List ℕ)
prefix_in (tokens.Prefixed prefix []) = Some prefix
prefix_in token = None

-- and what a token with its line is
abbrev pub mark : Lexeme → Option Mark
mark (at line token) = sign_in token

abbrev pub keyword : Lexeme → Option Keyword
keyword (at line token) = word_in token

abbrev pub tag : Lexeme → Option (List ℕ)
tag (at line token) = tag_in token

abbrev pub full_iri : Lexeme → Option (List ℕ)
full_iri (at line token) = iri_in token

abbrev pub prefix_name : Lexeme → Option (List ℕ)
prefix_name (at line token) = prefix_in token

-- the text of a string, with its line
abbrev pub string : Lexeme → Option (ℕ × List ℕ)
string (at line (tokens.Text text)) = Some (line, text)
string (at line token) = None

-- a name: an IRI or a prefixed name
abbrev pub name : Lexeme → Option SpelledName
name (at line (tokens.Iri iri)) = Some (Full line iri)
name (at line (tokens.Prefixed prefix local)) = Some (Short line prefix local)
name (at line token) = None

-- a verb: a name or `a`
abbrev pub verb : Lexeme → Option SpelledVerb
verb (at line (tokens.Iri iri)) = Some (verbs.Named (Full line iri))
verb (at line (tokens.Prefixed prefix local)) = Some (verbs.Named (Short line prefix local))
verb (at line (tokens.Word keywords.A)) = Some verbs.IsA
verb (at line token) = None

-- an object of one token: a name, a number or a truth value
abbrev pub object : Lexeme → Option SpelledObject
object (at line (tokens.Iri iri)) = Some (objects.Named (Full line iri))
object (at line (tokens.Prefixed prefix local)) = Some (objects.Named (Short line prefix local))
object (at line (tokens.Number text)) = Some (objects.Literal line text [] datatypes.Integer)
object (at line (tokens.Word keywords.True)) = Some (objects.Literal line (codes "true") [] datatypes.Boolean)
object (at line (tokens.Word keywords.False)) = Some (objects.Literal line (codes "false") [] datatypes.Boolean)
object (at line token) = None

-- at s stands one token that is x, and n is what comes behind it
abbrev pub One : {X : Type 0} → (Lexeme → Option X) → List Lexeme → X → List Lexeme → Type 0
One view s x n = (t : Lexeme) × (s ≡ t ∷ n) × (view t ≡ Some x)

-- what may stand behind a string: nothing, a tag, or ^^ and a datatype
pub data IsLiteralEnd (s : List Lexeme) (tag_is : List ℕ) (datatype : SpelledDatatype) (n : List Lexeme) : Type 0 where
  bare : s ≡ n → tag_is ≡ [] → datatype ≡ datatypes.Untyped → IsLiteralEnd s tag_is datatype n
  tagged : One tag s tag_is n → datatype ≡ datatypes.Untyped → IsLiteralEnd s tag_is datatype n
  typed : (m : List Lexeme) (it : SpelledName) → One mark s marks.Hats m → One name m it n → tag_is ≡ [] → datatype ≡ datatypes.Written it → IsLiteralEnd s tag_is datatype n

-- Object
pub data IsObject (s : List Lexeme) (it : SpelledObject) (n : List Lexeme) : Type 0 where
  single : One object s it n → IsObject s it n
  literal : (line : ℕ) (text tag_is : List ℕ) (datatype : SpelledDatatype) (m : List Lexeme) → One string s (line, text) m → IsLiteralEnd m tag_is datatype n
      → it ≡ objects.Literal line text tag_is datatype → IsObject s it n

-- a comma and an object
abbrev pub IsNextObject : List Lexeme → SpelledObject → List Lexeme → Type 0
IsNextObject s it n = (m : List Lexeme) × One mark s marks.Comma m × IsObject m it n

-- a verb with its objects
pub record Property : Type 0 where
  pub verb : SpelledVerb
  pub objects : List SpelledObject

-- Verb ObjectList
pub record IsProperty (s : List Lexeme) (it : Property) (n : List Lexeme) : Type 0 where
  pub verb_ends : List Lexeme
  pub first_ends : List Lexeme
  pub first : SpelledObject
  pub more : List SpelledObject
  pub is_verb : One verb s it.verb verb_ends
  pub is_first : IsObject verb_ends first first_ends
  pub are_more : Goes IsNextObject first_ends more n
  pub objects_are : it.objects ≡ first ∷ more

-- a semicolon, and a verb with its objects or nothing
pub data IsNextProperty (s : List Lexeme) (its : List Property) (n : List Lexeme) : Type 0 where
  empty : One mark s marks.Semicolon n → its ≡ [] → IsNextProperty s its n
  one : (m : List Lexeme) (it : Property) → One mark s marks.Semicolon m → IsProperty m it n → its ≡ it ∷ [] → IsNextProperty s its n

-- a subject with its verbs and their objects
pub record Group : Type 0 where
  pub subject : SpelledName
  pub properties : List Property

-- TriplesSameSubject
pub record IsGroup (s : List Lexeme) (it : Group) (n : List Lexeme) : Type 0 where
  pub subject_ends : List Lexeme
  pub first_ends : List Lexeme
  pub first : Property
  pub more : List (List Property)
  pub is_subject : One name s it.subject subject_ends
  pub is_first : IsProperty subject_ends first first_ends
  pub are_more : Goes IsNextProperty first_ends more n
  pub properties_are : it.properties ≡ first ∷ flat_map (λ (ps : List Property). ps) more

-- a dot and a group
abbrev pub IsNextGroup : List Lexeme → Group → List Lexeme → Type 0
IsNextGroup s it n = (m : List Lexeme) × One mark s marks.Dot m × IsGroup m it n

-- TriplesTemplate, or nothing
pub data IsTriples (s : List Lexeme) (its : List Group) (n : List Lexeme) : Type 0 where
  none : s ≡ n → its ≡ [] → IsTriples s its n
  some : (m k : List Lexeme) (first : Group) (more : List Group) → IsGroup s first m → Goes IsNextGroup m more k
      → (k ≡ n) ⊎ One mark k marks.Dot n → its ≡ first ∷ more → IsTriples s its n

-- the word of an operation
abbrev pub word_of : Operation → Keyword
word_of operations.Insert = keywords.Insert
word_of operations.Delete = keywords.Delete

-- InsertData, DeleteData
pub record IsOperation (s : List Lexeme) (operation : Operation) (its : List Group) (n : List Lexeme) : Type 0 where
  pub word_ends : List Lexeme
  pub data_ends : List Lexeme
  pub brace_ends : List Lexeme
  pub triples_end : List Lexeme
  pub is_word : One keyword s (word_of operation) word_ends
  pub is_data : One keyword word_ends keywords.Data data_ends
  pub is_brace : One mark data_ends marks.OpenBrace brace_ends
  pub are_triples : IsTriples brace_ends its triples_end
  pub is_end : One mark triples_end marks.CloseBrace n

-- PrefixDecl, BaseDecl: a prefix with its IRI, or nothing, since every IRI of an update is absolute
pub data IsPrologueLine (s : List Lexeme) (it : Option (List ℕ × List ℕ)) (n : List Lexeme) : Type 0 where
  prefix : (k m : List Lexeme) (named iri : List ℕ) → One keyword s keywords.Prefix k → One prefix_name k named m → One full_iri m iri n → it ≡ Some (named, iri) → IsPrologueLine s it n
  base : (m : List Lexeme) (iri : List ℕ) → One keyword s keywords.Base m → One full_iri m iri n → it ≡ None → IsPrologueLine s it n

-- the prefixes behind a line of the prologue
abbrev pub bound : Bindings → Option (List ℕ × List ℕ) → Bindings
bound bindings None = bindings
bound bindings (Some line) = with_prefix bindings line.0 line.1

-- a triple, with the prefixes that its names are read under
pub record Statement : Type 0 where
  pub bindings : Bindings
  pub stem : Stem
  pub object : SpelledObject

abbrev pub say : Bindings → Operation → SpelledName → SpelledVerb → SpelledObject → Statement
say bindings operation subject v o = record { bindings = bindings; stem = record { operation = operation; subject = subject; verb = v }; object = o }

-- the triples of an operation, from left to right
abbrev pub property_says : (SpelledVerb → SpelledObject → Statement) → Property → List Statement
property_says saying p = map (saying p.verb) p.objects

abbrev pub group_says : (SpelledName → SpelledVerb → SpelledObject → Statement) → Group → List Statement
group_says saying g = flat_map (property_says (saying g.subject)) g.properties

abbrev pub operation_says : Bindings → Operation → List Group → List Statement
operation_says bindings operation groups = flat_map (group_says (say bindings operation)) groups

-- Update, under these prefixes: nothing, a line of the prologue and an update, an operation, or an operation, a semicolon and an update
pub data IsUpdate : Bindings → List Lexeme → List Statement → Type 0 where
  nothing : (b : Bindings) (s : List Lexeme) (out : List Statement) → s ≡ [] → out ≡ [] → IsUpdate b s out
  prologue : (b : Bindings) (s m : List Lexeme) (it : Option (List ℕ × List ℕ)) (out : List Statement) → IsPrologueLine s it m → IsUpdate (bound b it) m out → IsUpdate b s out
  last : (b : Bindings) (s : List Lexeme) (operation : Operation) (groups : List Group) (out : List Statement) → IsOperation s operation groups [] → out ≡ operation_says b operation groups → IsUpdate b s out
  more : (b : Bindings) (s m n : List Lexeme) (operation : Operation) (groups : List Group) (rest out : List Statement) → IsOperation s operation groups m → One mark m marks.Semicolon n
      → IsUpdate b n rest → out ≡ operation_says b operation groups ++ rest → IsUpdate b s out
