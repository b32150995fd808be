-- What a triple says under an ontology.
use Rattle.std.specs.Prelude.{ℕ, ◌+◌, List, [], ◌∷◌, Bool, true, false, ◌||◌, ◌&&◌, if◌then◌else◌, Option, Some, None, Result, Ok, Err}
use Rattle.std.specs.Str.{bytes_eq}
use Rattle.dl_base.specs.declared.statements.Fact.TheVariants as fact
use Rattle.dl_base.specs.declared.terms.Kind.{Kind}
use Rattle.dl_base.specs.declared.terms.Kind.TheVariants as kind
use Rattle.dl_base.specs.declared.terms.Term.{Term}
use Rattle.dl_base.specs.Ontologies.{Theory, Knows}
use Rattle.dl_text.specs.declared.kinds.ReadKind.{ReadKind}
use Rattle.dl_text.specs.declared.kinds.ReadKind.TheVariants as kinds
use Rattle.triples.specs.Names.{rdf_type, owl_thing, owl_named_individual, rdfs_label, rdfs_comment, rdfs_see_also, rdfs_is_defined_by}
use Rattle.triples.specs.declared.meaning.Object.{Object}
use Rattle.triples.specs.declared.meaning.Object.TheVariants as objects
use Rattle.triples.specs.declared.meaning.Said.{Said}
use Rattle.triples.specs.declared.meaning.Said.TheVariants as saids
use Rattle.triples.specs.declared.meaning.TripleFault.{TripleFault}
use Rattle.triples.specs.declared.meaning.TripleFault.TheVariants as faults

-- the first of the terms with this name, numbered from n, and its kind
abbrev pub term_from : ℕ → List (List ℕ × Kind) → List ℕ → Option (Term × Kind)
term_from n [] name = None
term_from n (term ∷ terms) name = if bytes_eq name term.0 then Some (record { 0 = n }, term.1) else term_from (n + 1) terms name

-- the term of the theory with this name, and its kind
abbrev pub term_of : Theory → List ℕ → Option (Term × Kind)
term_of theory name = term_from 0 theory.terms name

-- one of the annotation properties that every ontology knows
abbrev pub is_label : List ℕ → Bool
is_label name = bytes_eq name rdfs_label || bytes_eq name rdfs_comment || bytes_eq name rdfs_see_also || bytes_eq name rdfs_is_defined_by

abbrev pub is_note : Option (Term × Kind) → Bool
is_note None = false
is_note (Some (t, kind.Class)) = false
is_note (Some (t, kind.Role)) = false
is_note (Some (t, kind.Attr)) = false
is_note (Some (t, kind.Note)) = true

-- owl:NamedIndividual or owl:Thing
abbrev pub is_anything : Object → Bool
is_anything (objects.Iri name) = bytes_eq name owl_named_individual || bytes_eq name owl_thing
is_anything (objects.Literal value) = false

-- the triple says nothing that is a fact: an annotation, or that something is an individual
abbrev pub is_skipped : Theory → List ℕ → Object → Bool
is_skipped theory predicate object = is_label predicate || is_note (term_of theory predicate) || (bytes_eq predicate rdf_type && is_anything object)

-- the subject is in what has the name
abbrev pub membership : List ℕ → Option (Term × Kind) → Result Said TripleFault
membership subject None = Err faults.UnknownTerm
membership subject (Some (c, kind.Class)) = Ok (saids.Fact (fact.Class c subject))
membership subject (Some (t, kind.Role)) = Err faults.WrongKind
membership subject (Some (t, kind.Attr)) = Err faults.WrongKind
membership subject (Some (t, kind.Note)) = Err faults.WrongKind

-- the subject is in what the object names
abbrev pub class_said : Theory → List ℕ → Object → Result Said TripleFault
class_said theory subject (objects.Iri name) = membership subject (term_of theory name)
class_said theory subject (objects.Literal value) = Err faults.WrongKind

-- the predicate joins the subject to the object: a role to an individual, an attribute to a value
abbrev pub link_said : List ℕ → Option (Term × Kind) → Object → Result Said TripleFault
link_said subject None object = Err faults.UnknownTerm
link_said subject (Some (p, kind.Role)) (objects.Iri name) = Ok (saids.Fact (fact.Role p subject name))
link_said subject (Some (u, kind.Attr)) (objects.Literal value) = Ok (saids.Fact (fact.Attr u subject value))
link_said subject (Some (p, kind.Role)) (objects.Literal value) = Err faults.WrongKind
link_said subject (Some (u, kind.Attr)) (objects.Iri name) = Err faults.WrongKind
link_said subject (Some (c, kind.Class)) object = Err faults.WrongKind
link_said subject (Some (n, kind.Note)) object = Err faults.WrongKind

-- what the triple says, or why it says nothing
abbrev pub said_of : Theory → List ℕ → List ℕ → Object → Result Said TripleFault
said_of theory subject predicate object =
    if is_skipped theory predicate object then Ok saids.Skipped else if bytes_eq predicate rdf_type then class_said theory subject object
    else link_said subject (term_of theory predicate) object

-- the fact, if it says one, is over a term of the theory
abbrev pub KnowsSaid : Theory → Said → Type 0
KnowsSaid theory saids.Skipped = Unit {0}
KnowsSaid theory (saids.Fact f) = Knows theory f

-- the refusal that a fault of a triple leads to
abbrev pub kind_of : TripleFault → ReadKind
kind_of faults.UnknownTerm = kinds.UnknownTerm
kind_of faults.WrongKind = kinds.WrongKind
