-- The namespaces that every text knows, and the datatypes that have a rule of their own.
use Rattle.std.specs.Prelude.{ℕ, List, codes}

unfoldable pub rdf_namespace : List ℕ
rdf_namespace = codes "http://www.w3.org/1999/02/22-rdf-syntax-ns#"

unfoldable pub rdfs_namespace : List ℕ
rdfs_namespace = codes "http://www.w3.org/2000/01/rdf-schema#"

unfoldable pub xsd_namespace : List ℕ
xsd_namespace = codes "http://www.w3.org/2001/XMLSchema#"

unfoldable pub owl_namespace : List ℕ
owl_namespace = codes "http://www.w3.org/2002/07/owl#"

unfoldable pub xsd_integer : List ℕ
xsd_integer = codes "http://www.w3.org/2001/XMLSchema#integer"

unfoldable pub xsd_boolean : List ℕ
xsd_boolean = codes "http://www.w3.org/2001/XMLSchema#boolean"

unfoldable pub xsd_string : List ℕ
xsd_string = codes "http://www.w3.org/2001/XMLSchema#string"

unfoldable pub lang_string : List ℕ
lang_string = codes "http://www.w3.org/1999/02/22-rdf-syntax-ns#langString"
