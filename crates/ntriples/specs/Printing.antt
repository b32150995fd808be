-- How facts are printed.
use Rattle.std.specs.Prelude.{ℕ, List, [], ◌∷◌, ◌++◌, Option, Some, None, codes, nat_eq, slice_get, length, if◌then◌else◌, ◌==◌}
use Rattle.std.specs.List.{flat_map}
use Rattle.std.specs.Cmp.Lexicographic.{pointwise}
use Rattle.dl_base.specs.declared.names.Value.{Value}
use Rattle.dl_base.specs.declared.statements.Fact.{Fact}
use Rattle.dl_base.specs.declared.statements.Fact.TheVariants as fact
use Rattle.dl_base.specs.declared.terms.Kind.{Kind}
use Rattle.dl_base.specs.declared.terms.Term.{Term}
use Rattle.dl_base.specs.Ontologies.{Theory}
use Rattle.dl_text.specs.Namespaces.{xsd_string}
use Rattle.dl_text.specs.Printing.{written}
use Rattle.triples.specs.Names.{rdf_type}

-- the name of a term, nothing where there is none
abbrev pub name_in : Option (List ℕ × Kind) → List ℕ
name_in None = []
name_in (Some entry) = entry.0

abbrev pub name_of : Theory → Term → List ℕ
name_of theory t = name_in (slice_get theory.terms t.0)

-- an IRI between < and >
abbrev pub iri : List ℕ → List ℕ
iri name = 60 ∷ (name ++ 62 ∷ [])

-- the datatype behind ^^, nothing for xsd:string
abbrev pub datatype_of : List ℕ → List ℕ
datatype_of datatype = if pointwise nat_eq datatype xsd_string then [] else codes "^^" ++ iri datatype

-- what stands behind the text of a literal: its tag, or else its datatype
abbrev pub behind : Value → List ℕ
behind v = if length v.tag == 0 then datatype_of v.datatype else 64 ∷ v.tag

-- a literal: its text in quotes with the escapes, and what stands behind
abbrev pub literal : Value → List ℕ
literal v = 34 ∷ (written v.text ++ 34 ∷ behind v)

-- subject, predicate and object with single spaces, a point and LF
abbrev pub triple : List ℕ → List ℕ → List ℕ → List ℕ
triple subject predicate object = iri subject ++ 32 ∷ (iri predicate ++ 32 ∷ (object ++ 32 ∷ 46 ∷ 10 ∷ []))

-- the line of a fact
abbrev pub line : Theory → Fact → List ℕ
line theory (fact.Class c a) = triple a rdf_type (iri (name_of theory c))
line theory (fact.Role p a b) = triple a (name_of theory p) (iri b)
line theory (fact.Attr u a v) = triple a (name_of theory u) (literal v)

-- a line for each fact
abbrev pub lines : Theory → List Fact → List ℕ
lines theory facts = flat_map (line theory) facts
