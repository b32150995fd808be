-- The fourth pass over a line: the literal of its triple, and then what the triple says under an ontology.
use Rattle.std.specs.Prelude.{◌≡◌, ◌⊎◌, ℕ, List, [], Option, Some, None, Result, Ok, Err}
use Rattle.dl_base.specs.declared.names.Value.{Value}
use Rattle.dl_base.specs.Ontologies.{Theory}
use Rattle.dl_text.specs.declared.faults.TextFault.{TextFault}
use Rattle.dl_text.specs.declared.faults.TextFault.TheVariants as texts
use Rattle.dl_text.specs.declared.kinds.ReadKind.TheVariants as kinds
use Rattle.dl_text.specs.Literals.{IsValueOf}
use Rattle.triples.specs.declared.meaning.Object as meant_type
use Rattle.triples.specs.declared.meaning.Object.TheVariants as meanings
use Rattle.triples.specs.declared.meaning.Said.{Said}
use Rattle.triples.specs.declared.meaning.TripleFault.{TripleFault}
use Rattle.triples.specs.Meaning.{said_of, kind_of}
use Rattle.ntriples.specs.declared.faults.LineFault.{LineFault}
use Rattle.ntriples.specs.declared.faults.LineFault.TheVariants.{Refused, OutOfMemory}
use Rattle.ntriples.specs.declared.grammar.Object.{Object}
use Rattle.ntriples.specs.declared.grammar.Object.TheVariants as objects
use Rattle.ntriples.specs.declared.grammar.Triple.{Triple}
use Rattle.ntriples.specs.Lines.{Parses}

-- the value of a literal with this text, datatype and tag
abbrev pub IsLiteral : List ℕ → List ℕ → List ℕ → meant_type.Object → Type 0
IsLiteral text datatype tag meant = (value : Value) × IsValueOf text datatype tag value × (meant ≡ meanings.Literal value)

-- what the object as it is written stands for
abbrev pub StandsFor : Object → meant_type.Object → Type 0
StandsFor (objects.Iri name) = λ meant. meant ≡ meanings.Iri name
StandsFor (objects.Plain text) = IsLiteral text [] []
StandsFor (objects.Typed text datatype) = IsLiteral text datatype []
StandsFor (objects.Tagged text tag) = IsLiteral text [] tag

-- an object of which P holds, exactly where it holds of any
abbrev pub Means : (meant_type.Object → Type 0) → Result meant_type.Object TextFault → Type 0
Means P (Ok meant) = P meant
Means P (Err texts.BadLiteral) = (meant : meant_type.Object) → ¬ P meant
Means P (Err texts.OutOfMemory) = Unit {0}
Means P (Err texts.BadIri) = ⊥
Means P (Err texts.BadEscape) = ⊥
Means P (Err texts.NameTooLong) = ⊥
Means P (Err texts.UnknownPrefix) = ⊥

-- what the triple says: BadLiteral where its literal is none, and else by the names
abbrev pub Says : Theory → Triple → Result Said LineFault → Type 0
Says theory triple (Ok said) =
    (meant : meant_type.Object) × StandsFor triple.object meant × (said_of theory triple.subject triple.predicate meant ≡ Ok said)
Says theory triple (Err (Refused kind)) =
    (((meant : meant_type.Object) → ¬ StandsFor triple.object meant) × (kind ≡ kinds.BadLiteral))
    ⊎ ((meant : meant_type.Object) × (fault : TripleFault) × StandsFor triple.object meant
    × (said_of theory triple.subject triple.predicate meant ≡ Err fault) × (kind ≡ kind_of fault))
Says theory triple (Err OutOfMemory) = Unit {0}

-- the second to the fourth pass over one line: what its triple says, or that it has none
abbrev pub LineSays : Theory → List ℕ → Result (Option Said) LineFault → Type 0
LineSays theory line (Ok None) = Parses line (Ok None)
LineSays theory line (Ok (Some said)) = (triple : Triple) × Parses line (Ok (Some triple)) × Says theory triple (Ok said)
LineSays theory line (Err (Refused kind)) =
    Parses line (Err (Refused kind)) ⊎ ((triple : Triple) × Parses line (Ok (Some triple)) × Says theory triple (Err (Refused kind)))
LineSays theory line (Err OutOfMemory) = Unit {0}
