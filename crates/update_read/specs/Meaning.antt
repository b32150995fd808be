-- The fourth pass: the facts of an update's triples, or the first triple that is refused.
use Rattle.std.specs.Prelude.{◌≡◌, ◌⊎◌, ◌≤◌, ◌<◌, ℕ, List, [], ◌∷◌, length, count_by, Bool, true, false, Option, Some, Result, Ok, Err}
use Rattle.std.specs.List.{flat_map}
use Rattle.dl_base.specs.Ontologies.{Theory}
use Rattle.dl_base.specs.Repeats.{IsOnce}
use Rattle.dl_base.specs.declared.names.Value.{Value}
use Rattle.dl_base.specs.declared.statements.Fact.{Fact}
use Rattle.dl_text.specs.Going.{Goes}
use Rattle.dl_text.specs.Kinds.{kind_of}
use Rattle.dl_text.specs.Literals.{ReadsValue}
use Rattle.dl_text.specs.Namespaces.{xsd_integer, xsd_boolean}
use Rattle.dl_text.specs.Prefixes.{Bindings, Resolves}
use Rattle.dl_text.specs.declared.faults.TextFault.{TextFault}
use Rattle.dl_text.specs.declared.kinds.ReadKind.{ReadKind}
use Rattle.dl_text.specs.declared.kinds.ReadKind.TheVariants as kinds
use Rattle.triples.specs.Meaning.{said_of}
use Rattle.triples.specs.Meaning as triple
use Rattle.triples.specs.Names.{rdf_type}
use Rattle.triples.specs.declared.meaning.Object.{Object}
use Rattle.triples.specs.declared.meaning.Object.TheVariants as meant
use Rattle.triples.specs.declared.meaning.Said.{Said}
use Rattle.triples.specs.declared.meaning.Said.TheVariants as saids
use Rattle.triples.specs.declared.meaning.TripleFault.{TripleFault}
use Rattle.update_read.specs.declared.syntax.Operation.{Operation}
use Rattle.update_read.specs.declared.syntax.Operation.TheVariants.{Insert, Delete}
use Rattle.update_read.specs.declared.syntax.SpelledName.{SpelledName}
use Rattle.update_read.specs.declared.syntax.SpelledName.TheVariants.{Full, Short}
use Rattle.update_read.specs.declared.syntax.SpelledVerb.{SpelledVerb}
use Rattle.update_read.specs.declared.syntax.SpelledVerb.TheVariants as verbs
use Rattle.update_read.specs.declared.syntax.SpelledDatatype.{SpelledDatatype}
use Rattle.update_read.specs.declared.syntax.SpelledDatatype.TheVariants as datatypes
use Rattle.update_read.specs.declared.syntax.SpelledObject.{SpelledObject}
use Rattle.update_read.specs.declared.syntax.SpelledObject.TheVariants as objects
use Rattle.update_read.specs.declared.reading.ReadUpdate.{ReadUpdate}
use Rattle.update_read.specs.Grammar.{Statement}

-- the spelling stands for the name
abbrev pub Names : Bindings → SpelledName → List ℕ → Type 0
Names bindings (Full line iri) name = name ≡ iri
Names bindings (Short line prefix local) name = Resolves bindings prefix local true (Ok name)

-- the spelling stands for no name, on this line and for this reason
abbrev pub NameFails : Bindings → SpelledName → ℕ → ReadKind → Type 0
NameFails bindings (Full line iri) at kind = ⊥
NameFails bindings (Short line prefix local) at kind = (fault : TextFault) × Resolves bindings prefix local true (Err fault) × (kind_of fault ≡ Some kind) × (at ≡ line)

abbrev pub VerbNames : Bindings → SpelledVerb → List ℕ → Type 0
VerbNames bindings (verbs.Named it) name = Names bindings it name
VerbNames bindings verbs.IsA name = name ≡ rdf_type

abbrev pub VerbFails : Bindings → SpelledVerb → ℕ → ReadKind → Type 0
VerbFails bindings (verbs.Named it) at kind = NameFails bindings it at kind
VerbFails bindings verbs.IsA at kind = ⊥

-- the datatype, empty where none is written
abbrev pub DatatypeNames : Bindings → SpelledDatatype → List ℕ → Type 0
DatatypeNames bindings datatypes.Untyped name = name ≡ []
DatatypeNames bindings datatypes.Integer name = name ≡ xsd_integer
DatatypeNames bindings datatypes.Boolean name = name ≡ xsd_boolean
DatatypeNames bindings (datatypes.Written it) name = Names bindings it name

abbrev pub DatatypeFails : Bindings → SpelledDatatype → ℕ → ReadKind → Type 0
DatatypeFails bindings datatypes.Untyped at kind = ⊥
DatatypeFails bindings datatypes.Integer at kind = ⊥
DatatypeFails bindings datatypes.Boolean at kind = ⊥
DatatypeFails bindings (datatypes.Written it) at kind = NameFails bindings it at kind

-- the object is this name, or the value of this literal
abbrev pub ObjectMeans : Bindings → SpelledObject → Object → Type 0
ObjectMeans bindings (objects.Named it) object = (name : List ℕ) × Names bindings it name × (object ≡ meant.Iri name)
ObjectMeans bindings (objects.Literal line text tag datatype) object =
    (name : List ℕ) × (value : Value) × DatatypeNames bindings datatype name × ReadsValue text name tag (Ok value) × (object ≡ meant.Literal value)

-- the object is none: a name's fault, or a text that its datatype doesn't have
abbrev pub ObjectFails : Bindings → SpelledObject → ℕ → ReadKind → Type 0
ObjectFails bindings (objects.Named it) at kind = NameFails bindings it at kind
ObjectFails bindings (objects.Literal line text tag datatype) at kind =
    DatatypeFails bindings datatype at kind
    ⊎ ((name : List ℕ) × (fault : TextFault) × DatatypeNames bindings datatype name × ReadsValue text name tag (Err fault) × (kind_of fault ≡ Some kind) × (at ≡ line))

abbrev pub name_line : SpelledName → ℕ
name_line (Full line iri) = line
name_line (Short line prefix local) = line

-- the line of an object's first token
abbrev pub object_line : SpelledObject → ℕ
object_line (objects.Named it) = name_line it
object_line (objects.Literal line text tag datatype) = line

-- the triple says this
pub record Says (theory : Theory) (statement : Statement) (said : Said) : Type 0 where
  pub subject : List ℕ
  pub predicate : List ℕ
  pub object : Object
  pub is_subject : Names statement.bindings statement.stem.subject subject
  pub is_predicate : VerbNames statement.bindings statement.stem.verb predicate
  pub is_object : ObjectMeans statement.bindings statement.object object
  pub says : said_of theory subject predicate object ≡ Ok said

-- the triple is refused: names and literal in the order of the text, then the triple as a whole
pub data Fails (theory : Theory) (statement : Statement) (line : ℕ) (kind : ReadKind) : Type 0 where
  subject : NameFails statement.bindings statement.stem.subject line kind → Fails theory statement line kind
  predicate : (subject : List ℕ) → Names statement.bindings statement.stem.subject subject → VerbFails statement.bindings statement.stem.verb line kind → Fails theory statement line kind
  object : (subject predicate : List ℕ) → Names statement.bindings statement.stem.subject subject → VerbNames statement.bindings statement.stem.verb predicate
      → ObjectFails statement.bindings statement.object line kind → Fails theory statement line kind
  whole : (subject predicate : List ℕ) (object : Object) (fault : TripleFault) → Names statement.bindings statement.stem.subject subject
      → VerbNames statement.bindings statement.stem.verb predicate → ObjectMeans statement.bindings statement.object object
      → said_of theory subject predicate object ≡ Err fault → line ≡ object_line statement.object → kind ≡ triple.kind_of fault → Fails theory statement line kind

-- what a triple says, and which operation says it
pub record Outcome : Type 0 where
  pub operation : Operation
  pub said : Said

-- the first of these triples says this
pub record SaysFirst (theory : Theory) (s : List Statement) (outcome : Outcome) (n : List Statement) : Type 0 where
  pub statement : Statement
  pub is : s ≡ statement ∷ n
  pub operation : outcome.operation ≡ statement.stem.operation
  pub says : Says theory statement outcome.said

-- the fact that an outcome inserts, and that it deletes
abbrev pub inserted_by : Operation → Said → List Fact
inserted_by operation saids.Skipped = []
inserted_by Insert (saids.Fact f) = f ∷ []
inserted_by Delete (saids.Fact f) = []

abbrev pub deleted_by : Operation → Said → List Fact
deleted_by operation saids.Skipped = []
deleted_by Insert (saids.Fact f) = []
deleted_by Delete (saids.Fact f) = f ∷ []

abbrev pub is_skip : Said → Bool
is_skip saids.Skipped = true
is_skip (saids.Fact f) = false

abbrev pub inserted : List Outcome → List Fact
inserted outcomes = flat_map (λ (o : Outcome). inserted_by o.operation o.said) outcomes

abbrev pub deleted : List Outcome → List Fact
deleted outcomes = flat_map (λ (o : Outcome). deleted_by o.operation o.said) outcomes

abbrev pub skips : List Outcome → ℕ
skips outcomes = count_by (λ (o : Outcome). is_skip o.said) outcomes

-- how many triples an update may have
abbrev pub most_triples : ℕ
most_triples = 10000

-- all triples say something, and these are the facts, each list without repeats, and the number of skipped triples
pub record Means (theory : Theory) (statements : List Statement) (update : ReadUpdate) : Type 0 where
  pub outcomes : List Outcome
  pub goes : Goes (SaysFirst theory) statements outcomes []
  pub few : length statements ≤ most_triples
  pub inserts : IsOnce (inserted outcomes) update.inserts
  pub deletes : IsOnce (deleted outcomes) update.deletes
  pub skipped : update.skipped ≡ skips outcomes

-- the first triple that is refused: the first one too many, at its object, or one that fails
pub record IsRefusedBy (theory : Theory) (statements : List Statement) (line : ℕ) (kind : ReadKind) : Type 0 where
  pub outcomes : List Outcome
  pub statement : Statement
  pub rest : List Statement
  pub goes : Goes (SaysFirst theory) statements outcomes (statement ∷ rest)
  pub refused : ((length outcomes ≡ most_triples) × (line ≡ object_line statement.object) × (kind ≡ kinds.TooManyFacts))
      ⊎ ((length outcomes < most_triples) × Fails theory statement line kind)
