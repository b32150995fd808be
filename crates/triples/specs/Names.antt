-- Names that have a meaning of their own in facts and updates.
use Rattle.std.specs.Prelude.{ℕ, List, codes}

unfoldable pub rdf_type : List ℕ
rdf_type = codes "http://www.w3.org/1999/02/22-rdf-syntax-ns#type"

unfoldable pub owl_thing : List ℕ
owl_thing = codes "http://www.w3.org/2002/07/owl#Thing"

unfoldable pub owl_named_individual : List ℕ
owl_named_individual = codes "http://www.w3.org/2002/07/owl#NamedIndividual"

unfoldable pub rdfs_label : List ℕ
rdfs_label = codes "http://www.w3.org/2000/01/rdf-schema#label"

unfoldable pub rdfs_comment : List ℕ
rdfs_comment = codes "http://www.w3.org/2000/01/rdf-schema#comment"

unfoldable pub rdfs_see_also : List ℕ
rdfs_see_also = codes "http://www.w3.org/2000/01/rdf-schema#seeAlso"

unfoldable pub rdfs_is_defined_by : List ℕ
rdfs_is_defined_by = codes "http://www.w3.org/2000/01/rdf-schema#isDefinedBy"
