-- Facts that are read again from the lines that are printed for them.
use Rattle.std.specs.Prelude.{◌≡◌, ◌≢◌, ◌≤◌, ◌⊎◌, ℕ, List, [], false, length}
use Rattle.std.specs.Str.{IsUtf8}
use Rattle.dl_base.specs.declared.names.Value.{Value}
use Rattle.dl_base.specs.declared.statements.Fact.{Fact}
use Rattle.dl_base.specs.declared.statements.Fact.TheVariants as fact
use Rattle.dl_base.specs.Ontologies.{Theory, Knows}
use Rattle.dl_text.specs.Iris.{IsIri}
use Rattle.dl_text.specs.Literals.{IsValueOf}
use Rattle.dl_text.specs.Outcomes.{longest_iri, longest_text}
use Rattle.dl_runs.specs.Classes.{IsTag}
use Rattle.triples.specs.declared.meaning.Object.{Object}
use Rattle.triples.specs.declared.meaning.Object.TheVariants as objects
use Rattle.triples.specs.Meaning.{is_skipped}
use Rattle.triples.specs.Names.{rdf_type}
use Rattle.ntriples.specs.Printing.{name_of}

-- a text that is an IRI and not too long
abbrev pub IsName : List ℕ → Type 0
IsName name = IsUtf8 name × IsIri name × (length name ≤ longest_iri)

-- a text that is not too long, a tag or none, the name of a datatype, and of these parts it is the value
pub record IsCanonical (v : Value) : Type 0 where
  pub text : IsUtf8 v.text
  pub short : length v.text ≤ longest_text
  pub tag : (v.tag ≡ []) ⊎ IsTag v.tag
  pub datatype : IsName v.datatype
  pub itself : IsValueOf v.text v.datatype v.tag v

abbrev pub subject_of : Fact → List ℕ
subject_of (fact.Class c a) = a
subject_of (fact.Role p a b) = a
subject_of (fact.Attr u a v) = a

abbrev pub predicate_of : Theory → Fact → List ℕ
predicate_of theory (fact.Class c a) = rdf_type
predicate_of theory (fact.Role p a b) = name_of theory p
predicate_of theory (fact.Attr u a v) = name_of theory u

abbrev pub object_of : Theory → Fact → Object
object_of theory (fact.Class c a) = objects.Iri (name_of theory c)
object_of theory (fact.Role p a b) = objects.Iri b
object_of theory (fact.Attr u a v) = objects.Literal v

abbrev pub IsObject : Object → Type 0
IsObject (objects.Iri name) = IsName name
IsObject (objects.Literal v) = IsCanonical v

-- only a class fact has the predicate rdf:type
abbrev pub IsNamedApart : Theory → Fact → Type 0
IsNamedApart theory (fact.Class c a) = Unit {0}
IsNamedApart theory (fact.Role p a b) = name_of theory p ≢ rdf_type
IsNamedApart theory (fact.Attr u a v) = name_of theory u ≢ rdf_type

-- the fact is known, its names can be read, its value is canonical, no role or attribute is named rdf:type, and it isn't skipped
pub record IsPrintable (theory : Theory) (f : Fact) : Type 0 where
  pub known : Knows theory f
  pub subject : IsName (subject_of f)
  pub predicate : IsName (predicate_of theory f)
  pub object : IsObject (object_of theory f)
  pub apart : IsNamedApart theory f
  pub kept : is_skipped theory (predicate_of theory f) (object_of theory f) ≡ false
