-- Annotations, which give terms and nothing else.
use Rattle.std.specs.Prelude.{ℕ, List, [], ◌∷◌, codes, Bool, true, false, if◌then◌else◌, length, nat_lt, Option, Some, None, Result, Ok, Err}
use Rattle.std.specs.Str.{bytes_eq}
use Rattle.dl_base.specs.declared.terms.Kind.TheVariants as kinds
use Rattle.dl_text.specs.declared.kinds.ReadKind.TheVariants.{Syntax}
use Rattle.owl_syntax.specs.Trees.{Forest, none, leaf, word, group, blank, literal}
use Rattle.owl_read.specs.Builtins.{is_fixed_note}
use Rattle.owl_read.specs.Items.{Item, Single, Word, Group, items_of, word_in, line_of}
use Rattle.owl_read.specs.Literals.{literal_at}
use Rattle.owl_read.specs.Outcomes.{Refusal, ◌>>=◌}
use Rattle.owl_read.specs.Places.{iri_at}
use Rattle.owl_read.specs.Scopes.{Naming, name_at, term_named}

unfoldable pub note_named : Naming → ℕ → List ℕ → Result Naming Refusal
note_named s line name = if is_fixed_note name then Ok s else (term_named kinds.Note s line name >>= λ x. Ok x.0)

-- an annotation property, by its name
unfoldable pub note_at : Naming → Item → Result Naming Refusal
note_at s item = do
  name ← name_at Syntax s item
  note_named name.0 (line_of item) name.1

-- whether a blank node stands here
abbrev pub is_blank : Item → Bool
is_blank (Single (blank line label)) = true
is_blank item = false

-- whether a literal stands here
abbrev pub is_literal : Item → Bool
is_literal (Single (literal line text tag datatype)) = true
is_literal item = false

-- what is annotated: an IRI or a blank node
unfoldable pub subject_at : Naming → Item → Result Naming Refusal
subject_at s item = if is_blank item then Ok s else (iri_at s item >>= λ x. Ok x.0)

-- the value of an annotation: an IRI, a blank node or a literal
unfoldable pub annotated_at : Naming → Item → Result Naming Refusal
annotated_at s item = if is_literal item then (literal_at s item >>= λ x. Ok x.0) else subject_at s item

abbrev pub is_annotation : List ℕ → Bool
is_annotation text = bytes_eq text (codes "Annotation")

abbrev pub names_annotation : Option (ℕ × List ℕ × List Item) → Bool
names_annotation (Some w) = is_annotation w.1
names_annotation None = false

-- what stands behind the annotations in front
abbrev pub behind : List Item → List Item
behind [] = []
behind (item ∷ items) = if names_annotation (word_in item) then behind items else item ∷ items

-- Annotation( annotations P value ), with what stands behind its own annotations, which within reads
unfoldable pub annotation_of : (Naming → Result Naming Refusal) → Naming → ℕ → List Item → Result Naming Refusal
annotation_of within s line (property ∷ value ∷ []) = do
  t ← within s
  u ← note_at t property
  annotated_at u value
annotation_of within s line items = Err (line, Syntax)

-- the node is read if it is an annotation; and whether it is one
abbrev pub front_by : (Naming → Result Naming Refusal) → Naming → Option (ℕ × List ℕ × List Item) → Result (Naming × Bool) Refusal
front_by within s None = Ok (s, false)
front_by within s (Some w) = if is_annotation w.1 then (annotation_of within s w.0 (behind w.2) >>= λ t. Ok (t, true)) else Ok (s, false)

-- behind annotations alone one node more
abbrev pub front_behind : (Naming → Result Naming Refusal) → Naming × Bool → Item → Result (Naming × Bool) Refusal
front_behind within x item = if x.1 then front_by within x.0 (word_in item) else Ok (x.0, false)

-- the annotations in front, and whether nothing else stands there
unfoldable pub annotations_in : Naming → Forest → Result (Naming × Bool) Refusal
annotations_in s none = Ok (s, true)
annotations_in s (leaf before it) = annotations_in s before >>= λ x. front_behind (λ u. Ok u) x (Single it)
annotations_in s (word before line text args) = annotations_in s before >>= λ x. front_behind (λ u. annotations_in u args >>= λ y. Ok y.0) x (Word line text args)
annotations_in s (group before line args) = annotations_in s before >>= λ x. front_behind (λ u. Ok u) x (Group line args)

-- the node is read if it is an annotation; and whether it is one
unfoldable pub front_at : Naming → Item → Result (Naming × Bool) Refusal
front_at s (Word line text args) = front_by (λ u. annotations_in u args >>= λ y. Ok y.0) s (Some (line, text, items_of args))
front_at s (Single it) = Ok (s, false)
front_at s (Group line args) = Ok (s, false)

-- the annotations in front of the nodes
unfoldable pub annotations_at : Naming → List Item → Result Naming Refusal
annotations_at s [] = Ok s
annotations_at s (item ∷ items) = front_at s item >>= λ x. if x.1 then annotations_at x.0 items else Ok x.0

-- Annotation( annotations P value ), with what stands in its parentheses
unfoldable pub annotation_at : Naming → ℕ → List Item → Result Naming Refusal
annotation_at s line items = annotation_of (λ t. annotations_at t items) s line (behind items)

abbrev pub one_of : Naming → ℕ → List Item → List Item → Result (Naming × Item) Refusal
one_of s line items (one ∷ []) = annotations_at s items >>= λ t. Ok (t, one)
one_of s line items rest = Err (line, Syntax)

-- the one node behind the annotations, which are read; another count is refused before
unfoldable pub one_at : Naming → ℕ → List Item → Result (Naming × Item) Refusal
one_at s line items = one_of s line items (behind items)

abbrev pub two_of : Naming → ℕ → List Item → List Item → Result (Naming × (Item × Item)) Refusal
two_of s line items (one ∷ two ∷ []) = annotations_at s items >>= λ t. Ok (t, (one, two))
two_of s line items rest = Err (line, Syntax)

-- the two nodes behind the annotations
unfoldable pub two_at : Naming → ℕ → List Item → Result (Naming × (Item × Item)) Refusal
two_at s line items = two_of s line items (behind items)

abbrev pub three_of : Naming → ℕ → List Item → List Item → Result (Naming × (Item × Item × Item)) Refusal
three_of s line items (one ∷ two ∷ three ∷ []) = annotations_at s items >>= λ t. Ok (t, (one, two, three))
three_of s line items rest = Err (line, Syntax)

-- the three nodes behind the annotations
unfoldable pub three_at : Naming → ℕ → List Item → Result (Naming × (Item × Item × Item)) Refusal
three_at s line items = three_of s line items (behind items)

-- the nodes behind the annotations, which are two or more
unfoldable pub some_at : Naming → ℕ → List Item → Result (Naming × List Item) Refusal
some_at s line items = if nat_lt (length (behind items)) 2 then Err (line, Syntax) else (annotations_at s items >>= λ t. Ok (t, behind items))
