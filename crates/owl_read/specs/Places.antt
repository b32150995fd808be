-- Roles, attributes and individuals at their places.
use Rattle.std.specs.Prelude.{ℕ, List, [], ◌∷◌, codes, if◌then◌else◌, Option, Some, None, Result, Ok, Err}
use Rattle.std.specs.Str.{bytes_eq}
use Rattle.dl_base.specs.declared.terms.Kind.TheVariants as kinds
use Rattle.dl_base.specs.declared.terms.RoleSide.{RoleSide}
use Rattle.dl_base.specs.declared.terms.RoleSide.TheVariants.{Direct, Inverse}
use Rattle.dl_base.specs.declared.terms.Term.{Term}
use Rattle.dl_text.specs.declared.kinds.ReadKind.TheVariants.{NotDlLite, Syntax, BlankNode}
use Rattle.owl_read.specs.Items.{Item, word_in}
use Rattle.owl_read.specs.Outcomes.{Refusal, ◌>>=◌}
use Rattle.owl_read.specs.Scopes.{Naming, name_at, property_at}

-- ObjectInverseOf( P ), with a named role
unfoldable pub inverse_of : Naming → ℕ → List Item → Result (Naming × RoleSide) Refusal
inverse_of s line (item ∷ []) = property_at kinds.Role s item >>= λ x. Ok (x.0, Inverse x.1)
inverse_of s line items = Err (line, Syntax)

abbrev pub role_by : Naming → Item → Option (ℕ × List ℕ × List Item) → Result (Naming × RoleSide) Refusal
role_by s item None = property_at kinds.Role s item >>= λ x. Ok (x.0, Direct x.1)
role_by s item (Some word) = if bytes_eq word.1 (codes "ObjectInverseOf") then inverse_of s word.0 word.2 else Err (word.0, NotDlLite)

-- a role: its name, or the inverse of a named one
unfoldable pub role_at : Naming → Item → Result (Naming × RoleSide) Refusal
role_at s item = role_by s item (word_in item)

-- an attribute, by its name
abbrev pub attr_at : Naming → Item → Result (Naming × Term) Refusal
attr_at s item = property_at kinds.Attr s item

-- an individual, by its name
abbrev pub individual_at : Naming → Item → Result (Naming × List ℕ) Refusal
individual_at s item = name_at BlankNode s item

-- a datatype or another IRI that is no term
abbrev pub iri_at : Naming → Item → Result (Naming × List ℕ) Refusal
iri_at s item = name_at Syntax s item
