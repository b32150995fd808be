-- What each axiom of a document means, by its form: its places from left to right, and then what it gives.
use Rattle.std.specs.Prelude.{ℕ, ◌+◌, List, [], ◌∷◌, ◌++◌, if◌then◌else◌, Option, Some, None, Result, Ok, Err}
use Rattle.std.specs.List.{list_any}
use Rattle.std.specs.Str.{bytes_eq}
use Rattle.dl_base.specs.declared.axioms.Axiom.{Axiom}
use Rattle.dl_base.specs.declared.axioms.Axiom.TheVariants.{RoleIn, RoleApart, FunctionalRole, FunctionalAttr}
use Rattle.dl_base.specs.declared.statements.Fact.{Fact}
use Rattle.dl_base.specs.declared.statements.Fact.TheVariants as fact
use Rattle.dl_base.specs.declared.terms.Basic.{Basic}
use Rattle.dl_base.specs.declared.terms.Basic.TheVariants as basic
use Rattle.dl_base.specs.declared.terms.Kind.TheVariants as kinds
use Rattle.dl_base.specs.declared.terms.RoleSide.{RoleSide}
use Rattle.dl_base.specs.declared.terms.RoleSide.TheVariants.{Direct, Inverse}
use Rattle.dl_base.specs.declared.terms.Term.{Term}
use Rattle.dl_base.specs.Derivation.{inverse}
use Rattle.dl_text.specs.declared.kinds.ReadKind.TheVariants as refused
use Rattle.owl_read.specs.declared.forms.Form.{Form}
use Rattle.owl_read.specs.declared.forms.Form.TheVariants as forms
use Rattle.owl_read.specs.declared.forms.ClassForm.{ClassForm}
use Rattle.owl_read.specs.declared.forms.ClassForm.TheVariants.{SubClassOf, EquivalentClasses, DisjointClasses}
use Rattle.owl_read.specs.declared.forms.RoleForm.{RoleForm}
use Rattle.owl_read.specs.declared.forms.RoleForm.TheVariants.{SubObjectPropertyOf, EquivalentObjectProperties, DisjointObjectProperties, InverseObjectProperties, ObjectPropertyDomain, ObjectPropertyRange, SymmetricObjectProperty, AsymmetricObjectProperty, FunctionalObjectProperty, InverseFunctionalObjectProperty}
use Rattle.owl_read.specs.declared.forms.AttrForm.{AttrForm}
use Rattle.owl_read.specs.declared.forms.AttrForm.TheVariants.{SubDataPropertyOf, EquivalentDataProperties, DisjointDataProperties, DataPropertyDomain, DataPropertyRange, FunctionalDataProperty}
use Rattle.owl_read.specs.declared.forms.FactForm.{FactForm}
use Rattle.owl_read.specs.declared.forms.FactForm.TheVariants.{ClassAssertion, ObjectPropertyAssertion, DataPropertyAssertion, DifferentIndividuals}
use Rattle.owl_read.specs.declared.forms.NoteForm.{NoteForm}
use Rattle.owl_read.specs.declared.forms.NoteForm.TheVariants.{Import, Annotation, Declaration, AnnotationAssertion, SubAnnotationPropertyOf, AnnotationPropertyDomain, AnnotationPropertyRange}
use Rattle.owl_read.specs.declared.forms.Entity.{Entity}
use Rattle.owl_read.specs.declared.forms.Entity.TheVariants as entities
use Rattle.owl_read.specs.declared.sides.ClassName.{ClassName}
use Rattle.owl_read.specs.declared.sides.ClassName.TheVariants as classes
use Rattle.owl_read.specs.declared.sides.Side.{Side}
use Rattle.owl_read.specs.declared.sides.Side.TheVariants as sides
use Rattle.owl_read.specs.declared.sides.Sort.{Sort}
use Rattle.owl_read.specs.declared.sides.Sort.TheVariants as sorts
use Rattle.owl_read.specs.Annotations.{note_at, subject_at, annotated_at, annotation_at, one_at, two_at, three_at, some_at}
use Rattle.owl_read.specs.Concepts.{class_at, left_at, right_at}
use Rattle.owl_read.specs.Forms.{form_of, entity_of}
use Rattle.owl_read.specs.Items.{Item, word_in, line_of}
use Rattle.owl_read.specs.Literals.{literal_at}
use Rattle.owl_read.specs.Outcomes.{Refusal, ◌>>=◌}
use Rattle.owl_read.specs.Places.{role_at, attr_at, individual_at, iri_at}
use Rattle.owl_read.specs.Scopes.{Naming, property_at}
use Rattle.owl_read.specs.Table.{included, ring, all_apart, limited, subclass, ranged}

-- what a document has said so far: its terms, its axioms and its assertions in order, and how many were skipped
pub record Reading : Type 0 where
  pub scope : Naming
  pub axioms : List Axiom
  pub facts : List Fact
  pub skipped : ℕ

-- nothing more is said
abbrev pub moved : Reading → Naming → Reading
moved r s = record { scope = s; axioms = r.axioms; facts = r.facts; skipped = r.skipped }

-- these axioms more
abbrev pub giving : Reading → Naming → List Axiom → Reading
giving r s axioms = record { scope = s; axioms = r.axioms ++ axioms; facts = r.facts; skipped = r.skipped }

-- one assertion more
abbrev pub asserting : Reading → Naming → Fact → Reading
asserting r s f = record { scope = s; axioms = r.axioms; facts = r.facts ++ f ∷ []; skipped = r.skipped }

-- one more is skipped
abbrev pub skipping : Reading → Naming → Reading
skipping r s = record { scope = s; axioms = r.axioms; facts = r.facts; skipped = r.skipped + 1 }

-- a left side of concepts, a role or an attribute
unfoldable pub side_at : Sort → Naming → Item → Result (Naming × Side) Refusal
side_at sorts.Concepts s item = left_at s item
side_at sorts.Roles s item = role_at s item >>= λ x. Ok (x.0, sides.Role x.1)
side_at sorts.Attrs s item = attr_at s item >>= λ x. Ok (x.0, sides.Attr x.1)

-- sides beside each other
unfoldable pub sides_at : Sort → Naming → List Item → Result (Naming × List Side) Refusal
sides_at sort s [] = Ok (s, [])
sides_at sort s (item ∷ items) = do
  one ← side_at sort s item
  others ← sides_at sort one.0 items
  Ok (others.0, one.1 ∷ others.1)

-- two or more sides
unfoldable pub listed_at : Sort → Naming → ℕ → List Item → Result (Naming × List Side) Refusal
listed_at sort s line items = do
  x ← some_at s line items
  sides_at sort x.0 x.1

-- each is included in the next, and the last in the first
unfoldable pub equivalent : Sort → Reading → ℕ → List Item → Result Reading Refusal
equivalent sort r line items = listed_at sort r.scope line items >>= λ x. Ok (giving r x.0 (ring x.1))

-- each two are disjoint
unfoldable pub disjoint : Sort → Reading → ℕ → List Item → Result Reading Refusal
disjoint sort r line items = listed_at sort r.scope line items >>= λ x. Ok (giving r x.0 (all_apart x.1))

-- one role or attribute is included in another
unfoldable pub sub_property : Sort → Reading → ℕ → List Item → Result Reading Refusal
sub_property sort r line items = do
  x ← two_at r.scope line items
  one ← side_at sort x.0 x.1.0
  two ← side_at sort one.0 x.1.1
  Ok (giving r two.0 (included one.1 two.1))

-- left side, right side
unfoldable pub sub_class : Reading → ℕ → List Item → Result Reading Refusal
sub_class r line items = do
  x ← two_at r.scope line items
  left ← left_at x.0 x.1.0
  right ← right_at left.0 x.1.1
  Ok (giving r right.0 (subclass left.1 right.1))

unfoldable pub class_row : ClassForm → Reading → ℕ → List Item → Result Reading Refusal
class_row SubClassOf r line items = sub_class r line items
class_row EquivalentClasses r line items = equivalent sorts.Concepts r line items
class_row DisjointClasses r line items = disjoint sorts.Concepts r line items

-- two roles, of which each is included in the inverse of the other
unfoldable pub inverse_row : Reading → ℕ → List Item → Result Reading Refusal
inverse_row r line items = do
  x ← two_at r.scope line items
  one ← role_at x.0 x.1.0
  two ← role_at one.0 x.1.1
  Ok (giving r two.0 (included (sides.Role one.1) (sides.Role (inverse two.1)) ++ included (sides.Role (inverse two.1)) (sides.Role one.1)))

-- a concept is within the right side at the item
unfoldable pub limited_by : Reading → Naming → Basic → Item → Result Reading Refusal
limited_by r s b item = right_at s item >>= λ x. Ok (giving r x.0 (limited b x.1))

-- what has some partner in the role is within the right side
unfoldable pub domain_row : Reading → ℕ → List Item → Result Reading Refusal
domain_row r line items = do
  x ← two_at r.scope line items
  q ← role_at x.0 x.1.0
  limited_by r q.0 (basic.Exists q.1) x.1.1

-- what is some partner in the role is within the right side
unfoldable pub range_row : Reading → ℕ → List Item → Result Reading Refusal
range_row r line items = do
  x ← two_at r.scope line items
  q ← role_at x.0 x.1.0
  limited_by r q.0 (basic.Exists (inverse q.1)) x.1.1

-- the one role
unfoldable pub one_role : Naming → ℕ → List Item → Result (Naming × RoleSide) Refusal
one_role s line items = do
  x ← one_at s line items
  role_at x.0 x.1

unfoldable pub role_row : RoleForm → Reading → ℕ → List Item → Result Reading Refusal
role_row SubObjectPropertyOf r line items = sub_property sorts.Roles r line items
role_row EquivalentObjectProperties r line items = equivalent sorts.Roles r line items
role_row DisjointObjectProperties r line items = disjoint sorts.Roles r line items
role_row InverseObjectProperties r line items = inverse_row r line items
role_row ObjectPropertyDomain r line items = domain_row r line items
role_row ObjectPropertyRange r line items = range_row r line items
role_row SymmetricObjectProperty r line items = one_role r.scope line items >>= λ q. Ok (giving r q.0 (RoleIn q.1 (inverse q.1) ∷ []))
role_row AsymmetricObjectProperty r line items = one_role r.scope line items >>= λ q. Ok (giving r q.0 (RoleApart q.1 (inverse q.1) ∷ []))
role_row FunctionalObjectProperty r line items = one_role r.scope line items >>= λ q. Ok (giving r q.0 (FunctionalRole q.1 ∷ []))
role_row InverseFunctionalObjectProperty r line items = one_role r.scope line items >>= λ q. Ok (giving r q.0 (FunctionalRole (inverse q.1) ∷ []))

-- what has some value of the attribute is within the right side
unfoldable pub attr_domain_row : Reading → ℕ → List Item → Result Reading Refusal
attr_domain_row r line items = do
  x ← two_at r.scope line items
  u ← attr_at x.0 x.1.0
  limited_by r u.0 (basic.Domain u.1) x.1.1

-- the attribute's values are of the datatype
unfoldable pub attr_range_row : Reading → ℕ → List Item → Result Reading Refusal
attr_range_row r line items = do
  x ← two_at r.scope line items
  u ← attr_at x.0 x.1.0
  d ← iri_at u.0 x.1.1
  Ok (giving r d.0 (ranged u.1 d.1))

unfoldable pub functional_attr_row : Reading → ℕ → List Item → Result Reading Refusal
functional_attr_row r line items = do
  x ← one_at r.scope line items
  u ← attr_at x.0 x.1
  Ok (giving r u.0 (FunctionalAttr u.1 ∷ []))

unfoldable pub attr_row : AttrForm → Reading → ℕ → List Item → Result Reading Refusal
attr_row SubDataPropertyOf r line items = sub_property sorts.Attrs r line items
attr_row EquivalentDataProperties r line items = equivalent sorts.Attrs r line items
attr_row DisjointDataProperties r line items = disjoint sorts.Attrs r line items
attr_row DataPropertyDomain r line items = attr_domain_row r line items
attr_row DataPropertyRange r line items = attr_range_row r line items
attr_row FunctionalDataProperty r line items = functional_attr_row r line items

-- the class of an assertion: a term, or none for owl:Thing
abbrev pub asserted_class : Naming → ℕ → ClassName → Result (Naming × Option Term) Refusal
asserted_class s line (classes.Named c) = Ok (s, Some c)
asserted_class s line classes.Thing = Ok (s, None)
asserted_class s line classes.Nothing = Err (line, refused.NotDlLite)

-- an individual is in the class; that it is in owl:Thing is skipped
abbrev pub in_class : Reading → Naming → Option Term → List ℕ → Reading
in_class r s (Some c) a = asserting r s (fact.Class c a)
in_class r s None a = skipping r s

unfoldable pub class_fact : Reading → ℕ → List Item → Result Reading Refusal
class_fact r line items = do
  x ← two_at r.scope line items
  name ← class_at x.0 x.1.0
  c ← asserted_class name.0 (line_of x.1.0) name.1
  a ← individual_at c.0 x.1.1
  Ok (in_class r a.0 c.1 a.1)

-- two individuals stand in the role, or in the other order where it is an inverse
abbrev pub role_fact : RoleSide → List ℕ → List ℕ → Fact
role_fact (Direct p) a b = fact.Role p a b
role_fact (Inverse p) a b = fact.Role p b a

unfoldable pub object_fact : Reading → ℕ → List Item → Result Reading Refusal
object_fact r line items = do
  x ← three_at r.scope line items
  q ← role_at x.0 x.1.0
  a ← individual_at q.0 x.1.1
  b ← individual_at a.0 x.1.2
  Ok (asserting r b.0 (role_fact q.1 a.1 b.1))

unfoldable pub data_fact : Reading → ℕ → List Item → Result Reading Refusal
data_fact r line items = do
  x ← three_at r.scope line items
  u ← attr_at x.0 x.1.0
  a ← individual_at u.0 x.1.1
  v ← literal_at a.0 x.1.2
  Ok (asserting r v.0 (fact.Attr u.1 a.1 v.1))

-- individuals of which none is named twice
unfoldable pub different_at : List (List ℕ) → Naming → List Item → Result Naming Refusal
different_at seen s [] = Ok s
different_at seen s (item ∷ items) = individual_at s item >>= λ x.
    if list_any (λ (one : List ℕ). bytes_eq one x.1) seen then Err (line_of item, refused.NotDlLite) else different_at (x.1 ∷ seen) x.0 items

unfoldable pub different_row : Reading → ℕ → List Item → Result Reading Refusal
different_row r line items = do
  x ← some_at r.scope line items
  s ← different_at [] x.0 x.1
  Ok (moved r s)

unfoldable pub fact_row : FactForm → Reading → ℕ → List Item → Result Reading Refusal
fact_row ClassAssertion r line items = class_fact r line items
fact_row ObjectPropertyAssertion r line items = object_fact r line items
fact_row DataPropertyAssertion r line items = data_fact r line items
fact_row DifferentIndividuals r line items = different_row r line items

-- the name of a declared thing
unfoldable pub entity_named : Entity → Naming → Item → Result Naming Refusal
entity_named entities.Class s item = class_at s item >>= λ x. Ok x.0
entity_named entities.ObjectProperty s item = property_at kinds.Role s item >>= λ x. Ok x.0
entity_named entities.DataProperty s item = property_at kinds.Attr s item >>= λ x. Ok x.0
entity_named entities.AnnotationProperty s item = note_at s item
entity_named entities.Datatype s item = iri_at s item >>= λ x. Ok x.0
entity_named entities.NamedIndividual s item = individual_at s item >>= λ x. Ok x.0

abbrev pub entity_in : Naming → ℕ → Entity → List Item → Result Naming Refusal
entity_in s line entity (item ∷ []) = entity_named entity s item
entity_in s line entity items = Err (line, refused.Syntax)

abbrev pub entity_by : Naming → ℕ → Option Entity → List Item → Result Naming Refusal
entity_by s line (Some entity) items = entity_in s line entity items
entity_by s line None items = Err (line, refused.NotDlLite)

abbrev pub entity_in_word : Naming → Item → Option (ℕ × List ℕ × List Item) → Result Naming Refusal
entity_in_word s item (Some word) = entity_by s word.0 (entity_of word.1) word.2
entity_in_word s item None = iri_at s item >>= λ x. Err (line_of item, refused.Syntax)

-- a declared thing: its word and its name
unfoldable pub entity_at : Naming → Item → Result Naming Refusal
entity_at s item = entity_in_word s item (word_in item)

unfoldable pub declaration : Naming → ℕ → List Item → Result Naming Refusal
declaration s line items = do
  x ← one_at s line items
  entity_at x.0 x.1

unfoldable pub note_assertion : Naming → ℕ → List Item → Result Naming Refusal
note_assertion s line items = do
  x ← three_at s line items
  t ← note_at x.0 x.1.0
  u ← subject_at t x.1.1
  annotated_at u x.1.2

unfoldable pub note_pair : Naming → ℕ → List Item → Result Naming Refusal
note_pair s line items = do
  x ← two_at s line items
  t ← note_at x.0 x.1.0
  note_at t x.1.1

-- an annotation property and an IRI
unfoldable pub note_iri : Naming → ℕ → List Item → Result Naming Refusal
note_iri s line items = do
  x ← two_at s line items
  t ← note_at x.0 x.1.0
  iri_at t x.1.1 >>= λ y. Ok y.0

unfoldable pub note_row : NoteForm → Naming → ℕ → List Item → Result Naming Refusal
note_row Import s line items = Err (line, refused.Import)
note_row Annotation s line items = annotation_at s line items
note_row Declaration s line items = declaration s line items
note_row AnnotationAssertion s line items = note_assertion s line items
note_row SubAnnotationPropertyOf s line items = note_pair s line items
note_row AnnotationPropertyDomain s line items = note_iri s line items
note_row AnnotationPropertyRange s line items = note_iri s line items

unfoldable pub form_row : Form → Reading → ℕ → List Item → Result Reading Refusal
form_row (forms.Class form) r line items = class_row form r line items
form_row (forms.Role form) r line items = role_row form r line items
form_row (forms.Attr form) r line items = attr_row form r line items
form_row (forms.Fact form) r line items = fact_row form r line items
form_row (forms.Note form) r line items = note_row form r.scope line items >>= λ s. Ok (moved r s)

abbrev pub row : Option Form → Reading → ℕ → List Item → Result Reading Refusal
row (Some form) r line items = form_row form r line items
row None r line items = Err (line, refused.NotDlLite)

abbrev pub taken_by : Reading → Item → Option (ℕ × List ℕ × List Item) → Result Reading Refusal
taken_by r item (Some word) = row (form_of word.1) r word.0 word.2
taken_by r item None = iri_at r.scope item >>= λ x. Ok (moved r x.0)

-- one node of a document: an axiom, an import or an annotation by its word, or the document's own IRI or version IRI
unfoldable pub taken : Reading → Item → Result Reading Refusal
taken r item = taken_by r item (word_in item)
