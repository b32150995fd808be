-- The names of OWL 2, RDF and RDF Schema that have a meaning of their own here.
use Rattle.std.specs.Prelude.{ℕ, List, Bool, ◌||◌, codes}
use Rattle.std.specs.Str.{bytes_eq}
use Rattle.dl_base.specs.declared.terms.Kind.{Kind}
use Rattle.dl_base.specs.declared.terms.Kind.TheVariants as kinds
use Rattle.owl_read.specs.declared.builtins.Builtin.{Builtin}
use Rattle.owl_read.specs.declared.builtins.Builtin.TheVariants as builtins

unfoldable pub iri_of : Builtin → List ℕ
iri_of builtins.Thing = codes "http://www.w3.org/2002/07/owl#Thing"
iri_of builtins.Nothing = codes "http://www.w3.org/2002/07/owl#Nothing"
iri_of builtins.TopObjectProperty = codes "http://www.w3.org/2002/07/owl#topObjectProperty"
iri_of builtins.BottomObjectProperty = codes "http://www.w3.org/2002/07/owl#bottomObjectProperty"
iri_of builtins.TopDataProperty = codes "http://www.w3.org/2002/07/owl#topDataProperty"
iri_of builtins.BottomDataProperty = codes "http://www.w3.org/2002/07/owl#bottomDataProperty"
iri_of builtins.RdfType = codes "http://www.w3.org/1999/02/22-rdf-syntax-ns#type"
iri_of builtins.Label = codes "http://www.w3.org/2000/01/rdf-schema#label"
iri_of builtins.Comment = codes "http://www.w3.org/2000/01/rdf-schema#comment"
iri_of builtins.SeeAlso = codes "http://www.w3.org/2000/01/rdf-schema#seeAlso"
iri_of builtins.IsDefinedBy = codes "http://www.w3.org/2000/01/rdf-schema#isDefinedBy"
iri_of builtins.Literal = codes "http://www.w3.org/2000/01/rdf-schema#Literal"

abbrev pub is_builtin : Builtin → List ℕ → Bool
is_builtin builtin name = bytes_eq name (iri_of builtin)

-- owl:Thing or owl:Nothing, which are classes and no terms
abbrev pub is_fixed_class : List ℕ → Bool
is_fixed_class name = is_builtin builtins.Thing name || is_builtin builtins.Nothing name

-- rdfs:label, rdfs:comment, rdfs:seeAlso or rdfs:isDefinedBy, which are annotation properties and no terms
abbrev pub is_fixed_note : List ℕ → Bool
is_fixed_note name = is_builtin builtins.Label name || is_builtin builtins.Comment name || is_builtin builtins.SeeAlso name || is_builtin builtins.IsDefinedBy name

-- one of the four top and bottom properties
abbrev pub is_extreme : List ℕ → Bool
is_extreme name = is_builtin builtins.TopObjectProperty name || is_builtin builtins.BottomObjectProperty name || is_builtin builtins.TopDataProperty name || is_builtin builtins.BottomDataProperty name

-- what is no property that an ontology may use
abbrev pub is_no_property : List ℕ → Bool
is_no_property name = is_extreme name || is_fixed_class name || is_builtin builtins.RdfType name

-- the name can't be a term of this kind
abbrev pub is_barred : Kind → List ℕ → Bool
is_barred kinds.Class name = is_extreme name || is_fixed_note name
is_barred kinds.Role name = is_no_property name || is_fixed_note name
is_barred kinds.Attr name = is_no_property name || is_fixed_note name
is_barred kinds.Note name = is_no_property name
