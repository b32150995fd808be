-- Class expressions at their places.
use Rattle.std.specs.Prelude.{ℕ, List, [], ◌∷◌, codes, length, nat_le, if◌then◌else◌, Option, Some, None, Result, Ok, Err}
use Rattle.std.specs.Str.{bytes_eq}
use Rattle.dl_base.specs.declared.terms.Basic.{Basic}
use Rattle.dl_base.specs.declared.terms.Basic.TheVariants as basic
use Rattle.dl_base.specs.declared.terms.Kind.TheVariants as kinds
use Rattle.dl_base.specs.declared.terms.RoleSide.{RoleSide}
use Rattle.dl_text.specs.declared.kinds.ReadKind.TheVariants.{NotDlLite, Syntax}
use Rattle.owl_syntax.specs.Trees.{Forest, none, leaf, word, group}
use Rattle.owl_read.specs.declared.builtins.Builtin.TheVariants as builtins
use Rattle.owl_read.specs.declared.sides.ClassName.{ClassName}
use Rattle.owl_read.specs.declared.sides.ClassName.TheVariants as classes
use Rattle.owl_read.specs.declared.sides.Concept.{Concept}
use Rattle.owl_read.specs.declared.sides.Concept.TheVariants as concepts
use Rattle.owl_read.specs.declared.sides.Part.{Part}
use Rattle.owl_read.specs.declared.sides.Part.TheVariants.{Within, Related, Outside, Empty}
use Rattle.owl_read.specs.declared.sides.Side.{Side}
use Rattle.owl_read.specs.declared.sides.Side.TheVariants as sides
use Rattle.owl_read.specs.Builtins.{iri_of, is_builtin}
use Rattle.owl_read.specs.Items.{Item, Single, Word, Group, word_in, line_of}
use Rattle.owl_read.specs.Outcomes.{Refusal, ◌>>=◌, with_front}
use Rattle.owl_read.specs.Places.{role_at, attr_at}
use Rattle.owl_read.specs.Scopes.{Naming, name_at, is_name, term_named}

-- the class of this name: owl:Thing, owl:Nothing or a term
unfoldable pub class_named : Naming → ℕ → List ℕ → Result (Naming × ClassName) Refusal
class_named s line name =
    if is_builtin builtins.Thing name then Ok (s, classes.Thing)
    else (if is_builtin builtins.Nothing name then Ok (s, classes.Nothing)
    else (term_named kinds.Class s line name >>= λ x. Ok (x.0, classes.Named x.1)))

-- a class, by its name
unfoldable pub class_at : Naming → Item → Result (Naming × ClassName) Refusal
class_at s item = do
  name ← name_at Syntax s item
  class_named name.0 (line_of item) name.1

-- ObjectSomeValuesFrom( Q owl:Thing )
unfoldable pub some_partner : Naming → ℕ → List Item → Result (Naming × Basic) Refusal
some_partner s line (role ∷ filler ∷ []) =
    if is_name (iri_of builtins.Thing) s filler then (role_at s role >>= λ x. Ok (x.0, basic.Exists x.1)) else Err (line, NotDlLite)
some_partner s line items = Err (line, Syntax)

-- DataSomeValuesFrom( U rdfs:Literal )
unfoldable pub some_value : Naming → ℕ → List Item → Result (Naming × Basic) Refusal
some_value s line (attr ∷ filler ∷ []) =
    if is_name (iri_of builtins.Literal) s filler then (attr_at s attr >>= λ x. Ok (x.0, basic.Domain x.1)) else Err (line, NotDlLite)
some_value s line items = Err (line, Syntax)

-- an expression that is a basic concept and no name
unfoldable pub existential_at : Naming → ℕ → List ℕ → List Item → Result (Naming × Basic) Refusal
existential_at s line text items =
    if bytes_eq text (codes "ObjectSomeValuesFrom") then some_partner s line items
    else (if bytes_eq text (codes "DataSomeValuesFrom") then some_value s line items else Err (line, NotDlLite))

abbrev pub concept_of : ClassName → Concept
concept_of classes.Thing = concepts.Thing
concept_of classes.Nothing = concepts.Nothing
concept_of (classes.Named c) = concepts.Basic (basic.Class c)

abbrev pub concept_by : Naming → Item → Option (ℕ × List ℕ × List Item) → Result (Naming × Concept) Refusal
concept_by s item None = class_at s item >>= λ x. Ok (x.0, concept_of x.1)
concept_by s item (Some w) = existential_at s w.0 w.1 w.2 >>= λ x. Ok (x.0, concepts.Basic x.1)

-- owl:Thing, owl:Nothing or a basic concept
unfoldable pub concept_at : Naming → Item → Result (Naming × Concept) Refusal
concept_at s item = concept_by s item (word_in item)

abbrev pub basic_of : Naming → ℕ → Concept → Result (Naming × Basic) Refusal
basic_of s line (concepts.Basic b) = Ok (s, b)
basic_of s line concepts.Thing = Err (line, NotDlLite)
basic_of s line concepts.Nothing = Err (line, NotDlLite)

-- a basic concept
unfoldable pub basic_at : Naming → Item → Result (Naming × Basic) Refusal
basic_at s item = concept_at s item >>= λ x. basic_of x.0 (line_of item) x.1

abbrev pub left_of : Naming → ℕ → Concept → Result (Naming × Side) Refusal
left_of s line (concepts.Basic b) = Ok (s, sides.Concept b)
left_of s line concepts.Thing = Err (line, NotDlLite)
left_of s line concepts.Nothing = Ok (s, sides.Nothing)

-- a left side: a basic concept or owl:Nothing
unfoldable pub left_at : Naming → Item → Result (Naming × Side) Refusal
left_at s item = concept_at s item >>= λ x. left_of x.0 (line_of item) x.1

-- the part of a right side that 'some Q in the concept' is: with owl:Thing some Q, with owl:Nothing nothing
abbrev pub related : RoleSide → Concept → Part
related q (concepts.Basic b) = Related q b
related q concepts.Thing = Within (basic.Exists q)
related q concepts.Nothing = Empty

-- ObjectSomeValuesFrom( Q B )
unfoldable pub partner_in : Naming → ℕ → List Item → Result (Naming × Part) Refusal
partner_in s line (role ∷ filler ∷ []) = do
  q ← role_at s role
  c ← concept_at q.0 filler
  Ok (c.0, related q.1 c.1)
partner_in s line items = Err (line, Syntax)

-- ObjectComplementOf( B )
unfoldable pub complement_of : Naming → ℕ → List Item → Result (Naming × Part) Refusal
complement_of s line (item ∷ []) = basic_at s item >>= λ x. Ok (x.0, Outside x.1)
complement_of s line items = Err (line, Syntax)

-- the parts of a right side that is owl:Thing, owl:Nothing or a basic concept
abbrev pub parts_of : Concept → List Part
parts_of concepts.Thing = []
parts_of concepts.Nothing = Empty ∷ []
parts_of (concepts.Basic b) = Within b ∷ []

-- the part that a right side is by its word, which is no intersection
unfoldable pub single_right : Naming → ℕ → List ℕ → List Item → Result (Naming × Part) Refusal
single_right s line text items =
    if bytes_eq text (codes "ObjectComplementOf") then complement_of s line items
    else (if bytes_eq text (codes "ObjectSomeValuesFrom") then partner_in s line items
    else (existential_at s line text items >>= λ x. Ok (x.0, Within x.1)))

-- the parts of a right side without a word
unfoldable pub named_right : Naming → Item → Result (Naming × List Part) Refusal
named_right s item = concept_at s item >>= λ x. Ok (x.0, parts_of x.1)

-- the parts of a right side by its word; within reads those of an intersection's members
unfoldable pub word_right : (Naming → Result (Naming × List Part) Refusal) → Naming → ℕ → List ℕ → List Item → Result (Naming × List Part) Refusal
word_right within s line text items =
    if bytes_eq text (codes "ObjectIntersectionOf") then (if nat_le 2 (length items) then within s else Err (line, Syntax))
    else (single_right s line text items >>= λ x. Ok (x.0, x.1 ∷ []))

abbrev pub right_by : (Naming → Result (Naming × List Part) Refusal) → Naming → Item → Option (ℕ × List ℕ × List Item) → Result (Naming × List Part) Refusal
right_by within s item None = named_right s item
right_by within s item (Some w) = word_right within s w.0 w.1 w.2

-- the parts of the right side at the item, from left to right
unfoldable pub right_with : (Naming → Result (Naming × List Part) Refusal) → Naming → Item → Result (Naming × List Part) Refusal
right_with within s item = right_by within s item (word_in item)

-- the parts of right sides beside each other
unfoldable pub rights_in : Naming → Forest → Result (Naming × List Part) Refusal
rights_in s none = Ok (s, [])
rights_in s (leaf before it) = rights_in s before >>= λ x. with_front x.1 (right_with (λ u. Ok (u, [])) x.0 (Single it))
rights_in s (word before line text args) = rights_in s before >>= λ x. with_front x.1 (right_with (λ u. rights_in u args) x.0 (Word line text args))
rights_in s (group before line args) = rights_in s before >>= λ x. with_front x.1 (right_with (λ u. rights_in u args) x.0 (Group line args))

-- the parts of a right side
abbrev pub right_at : Naming → Item → Result (Naming × List Part) Refusal
right_at s (Single it) = right_with (λ u. Ok (u, [])) s (Single it)
right_at s (Word line text args) = right_with (λ u. rights_in u args) s (Word line text args)
right_at s (Group line args) = right_with (λ u. rights_in u args) s (Group line args)
