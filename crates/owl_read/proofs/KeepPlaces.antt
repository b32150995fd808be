-- What reading keeps at each place.
use Rattle.std.proofs.Common.{ℕ, List, [], ◌∷◌, Option, Some, None, Result, Ok, Err, length}
use Rattle.std.specs.Prelude.{All, codes, nat_le}
use Rattle.std.specs.Str.{bytes_eq}
use Rattle.std.proofs.lemmas.List.Elements.{All-nil, All-cons, All-weaker, All-append}
use Rattle.dl_base.specs.declared.names.Value.{Value}
use Rattle.dl_base.specs.declared.terms.Basic.{Basic}
use Rattle.dl_base.specs.declared.terms.Basic.TheVariants as basic
use Rattle.dl_base.specs.declared.terms.Kind.TheVariants as kinds
use Rattle.dl_base.specs.declared.terms.RoleSide.{RoleSide}
use Rattle.dl_base.specs.declared.terms.RoleSide.TheVariants.{Direct, Inverse}
use Rattle.dl_base.specs.Ontologies.{KnowsRole, KnowsConcept}
use Rattle.dl_base.specs.Vocabularies.{bare}
use Rattle.dl_text.specs.declared.kinds.ReadKind.TheVariants as refused
use Rattle.owl_syntax.specs.Trees.{Datatype, untyped, other, by_iri, by_name, iri, blank, digits, prefixed, literal, Forest, none, leaf, word, group}
use Rattle.owl_read.specs.declared.builtins.Builtin.TheVariants as builtins
use Rattle.owl_read.specs.declared.sides.ClassName.{ClassName}
use Rattle.owl_read.specs.declared.sides.ClassName.TheVariants as classes
use Rattle.owl_read.specs.declared.sides.Concept.{Concept}
use Rattle.owl_read.specs.declared.sides.Concept.TheVariants as concepts
use Rattle.owl_read.specs.declared.sides.Part.{Part}
use Rattle.owl_read.specs.declared.sides.Part.TheVariants.{Within, Related, Outside, Empty}
use Rattle.owl_read.specs.declared.sides.Side.{Side}
use Rattle.owl_read.specs.declared.sides.Side.TheVariants as sides
use Rattle.owl_read.specs.Builtins.{iri_of, is_builtin}
use Rattle.owl_read.specs.Concepts.{class_named, class_at, some_partner, some_value, existential_at, concept_of, concept_by, concept_at, basic_of, basic_at, left_of, left_at, related, partner_in, complement_of, parts_of, single_right, named_right, word_right, right_by, right_with, rights_in, right_at}
use Rattle.owl_read.specs.Items.{Item, Single, Word, Group, word_in, line_of}
use Rattle.owl_read.specs.Literals.{datatype_at, literal_at, value_of, valued}
use Rattle.owl_read.specs.Outcomes.{Refusal, ◌>>=◌, with_front}
use Rattle.owl_read.specs.Places.{inverse_of, role_by, role_at, attr_at}
use Rattle.owl_read.specs.Scopes.{Naming, name_at, is_name, term_named, property_at, resolved}
use Rattle.owl_read.proofs.KeepLaws.{Grows, grows_not, term_stays, Keeps, keeps_then, keeps_if, Anything, OfKind, same_scope, term_keeps, name_keeps, property_keeps}

abbrev pub KnowsRoleIn : Naming → RoleSide → Type 0
KnowsRoleIn s q = KnowsRole (bare s.terms) q

abbrev pub KnowsBasic : Naming → Basic → Type 0
KnowsBasic s b = KnowsConcept (bare s.terms) b

abbrev pub KnowsClass : Naming → ClassName → Type 0
KnowsClass s (classes.Named c) = OfKind kinds.Class s c
KnowsClass s classes.Thing = Unit {0}
KnowsClass s classes.Nothing = Unit {0}

abbrev pub KnowsAny : Naming → Concept → Type 0
KnowsAny s (concepts.Basic b) = KnowsBasic s b
KnowsAny s concepts.Thing = Unit {0}
KnowsAny s concepts.Nothing = Unit {0}

abbrev pub KnowsSide : Naming → Side → Type 0
KnowsSide s (sides.Concept b) = KnowsBasic s b
KnowsSide s (sides.Role q) = KnowsRoleIn s q
KnowsSide s (sides.Attr u) = OfKind kinds.Attr s u
KnowsSide s sides.Nothing = Unit {0}

abbrev pub KnowsPart : Naming → Part → Type 0
KnowsPart s (Within b) = KnowsBasic s b
KnowsPart s (Related q b) = KnowsRoleIn s q × KnowsBasic s b
KnowsPart s (Outside b) = KnowsBasic s b
KnowsPart s Empty = Unit {0}

abbrev pub KnowsParts : Naming → List Part → Type 0
KnowsParts s parts = All (KnowsPart s) parts

module _ (s t : Naming) (g : Grows s t) where
  pub role_stays : (q : RoleSide) → KnowsRoleIn s q → KnowsRoleIn t q
  role_stays (Direct p) h = term_stays s t g p kinds.Role h
  role_stays (Inverse p) h = term_stays s t g p kinds.Role h

  pub basic_stays : (b : Basic) → KnowsBasic s b → KnowsBasic t b
  basic_stays (basic.Class c) h = term_stays s t g c kinds.Class h
  basic_stays (basic.Exists q) h = role_stays q h
  basic_stays (basic.Domain u) h = term_stays s t g u kinds.Attr h

  pub side_stays : (x : Side) → KnowsSide s x → KnowsSide t x
  side_stays (sides.Concept b) h = basic_stays b h
  side_stays (sides.Role q) h = role_stays q h
  side_stays (sides.Attr u) h = term_stays s t g u kinds.Attr h
  side_stays sides.Nothing h = tt

  part_stays : (p : Part) → KnowsPart s p → KnowsPart t p
  part_stays (Within b) h = basic_stays b h
  part_stays (Related q b) h = (role_stays q h.0, basic_stays b h.1)
  part_stays (Outside b) h = basic_stays b h
  part_stays Empty h = tt

  pub parts_stay : (ps : List Part) → KnowsParts s ps → KnowsParts t ps
  parts_stay ps h = All-weaker (KnowsPart s) (KnowsPart t) part_stays ps h

inverse_keeps : (s : Naming) (line : ℕ) (items : List Item) → Keeps KnowsRoleIn s (inverse_of s line items)
unfolding inverse_of
inverse_keeps s line [] = tt
inverse_keeps s line (item ∷ []) = keeps_then (OfKind kinds.Role) KnowsRoleIn s (property_at kinds.Role s item) (λ x. Ok (x.0, Inverse x.1)) (property_keeps kinds.Role s item) (λ x g h. (grows_not x.0, h))
inverse_keeps s line (item ∷ another ∷ rest) = tt

role_by_keeps : (s : Naming) (item : Item) (o : Option (ℕ × List ℕ × List Item)) → Keeps KnowsRoleIn s (role_by s item o)
role_by_keeps s item None = keeps_then (OfKind kinds.Role) KnowsRoleIn s (property_at kinds.Role s item) (λ x. Ok (x.0, Direct x.1)) (property_keeps kinds.Role s item) (λ x g h. (grows_not x.0, h))
role_by_keeps s item (Some w) = keeps_if KnowsRoleIn s (bytes_eq w.1 (codes "ObjectInverseOf")) (inverse_of s w.0 w.2) (Err (w.0, refused.NotDlLite)) (inverse_keeps s w.0 w.2) tt

pub role_keeps : (s : Naming) (item : Item) → Keeps KnowsRoleIn s (role_at s item)
unfolding role_at
role_keeps s item = role_by_keeps s item (word_in item)

class_named_keeps : (s : Naming) (line : ℕ) (name : List ℕ) → Keeps KnowsClass s (class_named s line name)
unfolding class_named
class_named_keeps s line name =
    keeps_if KnowsClass s (is_builtin builtins.Thing name) (Ok (s, classes.Thing)) _ (grows_not s, tt)
    (keeps_if KnowsClass s (is_builtin builtins.Nothing name) (Ok (s, classes.Nothing)) _ (grows_not s, tt)
    (keeps_then (OfKind kinds.Class) KnowsClass s (term_named kinds.Class s line name) (λ x. Ok (x.0, classes.Named x.1)) (term_keeps kinds.Class s line name) (λ x g h. (grows_not x.0, h))))

pub class_keeps : (s : Naming) (item : Item) → Keeps KnowsClass s (class_at s item)
unfolding class_at
class_keeps s item =
    keeps_then {X = List ℕ} Anything KnowsClass s (name_at refused.Syntax s item) (λ name. class_named name.0 (line_of item) name.1) (name_keeps refused.Syntax s item)
    (λ name g h. class_named_keeps name.0 (line_of item) name.1)

some_partner_keeps : (s : Naming) (line : ℕ) (items : List Item) → Keeps KnowsBasic s (some_partner s line items)
unfolding some_partner
some_partner_keeps s line [] = tt
some_partner_keeps s line (role ∷ []) = tt
some_partner_keeps s line (role ∷ filler ∷ []) =
    keeps_if KnowsBasic s (is_name (iri_of builtins.Thing) s filler) _ (Err (line, refused.NotDlLite))
    (keeps_then KnowsRoleIn KnowsBasic s (role_at s role) (λ x. Ok (x.0, basic.Exists x.1)) (role_keeps s role) (λ x g h. (grows_not x.0, h))) tt
some_partner_keeps s line (role ∷ filler ∷ another ∷ rest) = tt

some_value_keeps : (s : Naming) (line : ℕ) (items : List Item) → Keeps KnowsBasic s (some_value s line items)
unfolding some_value
some_value_keeps s line [] = tt
some_value_keeps s line (attr ∷ []) = tt
some_value_keeps s line (attr ∷ filler ∷ []) =
    keeps_if KnowsBasic s (is_name (iri_of builtins.Literal) s filler) _ (Err (line, refused.NotDlLite))
    (keeps_then (OfKind kinds.Attr) KnowsBasic s (attr_at s attr) (λ x. Ok (x.0, basic.Domain x.1)) (property_keeps kinds.Attr s attr) (λ x g h. (grows_not x.0, h))) tt
some_value_keeps s line (attr ∷ filler ∷ another ∷ rest) = tt

existential_keeps : (s : Naming) (line : ℕ) (text : List ℕ) (items : List Item) → Keeps KnowsBasic s (existential_at s line text items)
unfolding existential_at
existential_keeps s line text items =
    keeps_if KnowsBasic s (bytes_eq text (codes "ObjectSomeValuesFrom")) (some_partner s line items) _ (some_partner_keeps s line items)
    (keeps_if KnowsBasic s (bytes_eq text (codes "DataSomeValuesFrom")) (some_value s line items) (Err (line, refused.NotDlLite)) (some_value_keeps s line items) tt)

concept_of_keeps : (s : Naming) (c : ClassName) → KnowsClass s c → KnowsAny s (concept_of c)
concept_of_keeps s classes.Thing h = tt
concept_of_keeps s classes.Nothing h = tt
concept_of_keeps s (classes.Named c) h = h

concept_by_keeps : (s : Naming) (item : Item) (o : Option (ℕ × List ℕ × List Item)) → Keeps KnowsAny s (concept_by s item o)
concept_by_keeps s item None = keeps_then KnowsClass KnowsAny s (class_at s item) (λ x. Ok (x.0, concept_of x.1)) (class_keeps s item) (λ x g h. (grows_not x.0, concept_of_keeps x.0 x.1 h))
concept_by_keeps s item (Some w) = keeps_then KnowsBasic KnowsAny s (existential_at s w.0 w.1 w.2) (λ x. Ok (x.0, concepts.Basic x.1)) (existential_keeps s w.0 w.1 w.2) (λ x g h. (grows_not x.0, h))

concept_keeps : (s : Naming) (item : Item) → Keeps KnowsAny s (concept_at s item)
unfolding concept_at
concept_keeps s item = concept_by_keeps s item (word_in item)

basic_of_keeps : (s : Naming) (line : ℕ) (c : Concept) → KnowsAny s c → Keeps KnowsBasic s (basic_of s line c)
basic_of_keeps s line (concepts.Basic b) h = (grows_not s, h)
basic_of_keeps s line concepts.Thing h = tt
basic_of_keeps s line concepts.Nothing h = tt

basic_keeps : (s : Naming) (item : Item) → Keeps KnowsBasic s (basic_at s item)
unfolding basic_at
basic_keeps s item = keeps_then KnowsAny KnowsBasic s (concept_at s item) (λ x. basic_of x.0 (line_of item) x.1) (concept_keeps s item) (λ x g h. basic_of_keeps x.0 (line_of item) x.1 h)

left_of_keeps : (s : Naming) (line : ℕ) (c : Concept) → KnowsAny s c → Keeps KnowsSide s (left_of s line c)
left_of_keeps s line (concepts.Basic b) h = (grows_not s, h)
left_of_keeps s line concepts.Thing h = tt
left_of_keeps s line concepts.Nothing h = (grows_not s, tt)

pub left_keeps : (s : Naming) (item : Item) → Keeps KnowsSide s (left_at s item)
unfolding left_at
left_keeps s item = keeps_then KnowsAny KnowsSide s (concept_at s item) (λ x. left_of x.0 (line_of item) x.1) (concept_keeps s item) (λ x g h. left_of_keeps x.0 (line_of item) x.1 h)

related_known : (s : Naming) (q : RoleSide) (c : Concept) → KnowsRoleIn s q → KnowsAny s c → KnowsPart s (related q c)
related_known s q (concepts.Basic b) h k = (h, k)
related_known s q concepts.Thing h k = h
related_known s q concepts.Nothing h k = tt

partner_keeps : (s : Naming) (line : ℕ) (items : List Item) → Keeps KnowsPart s (partner_in s line items)
unfolding partner_in
partner_keeps s line [] = tt
partner_keeps s line (role ∷ []) = tt
partner_keeps s line (role ∷ filler ∷ []) =
    keeps_then KnowsRoleIn KnowsPart s (role_at s role) (λ q. concept_at q.0 filler >>= λ c. Ok (c.0, related q.1 c.1)) (role_keeps s role)
    (λ q g h. keeps_then KnowsAny KnowsPart q.0 (concept_at q.0 filler) (λ c. Ok (c.0, related q.1 c.1)) (concept_keeps q.0 filler)
    (λ c f k. (grows_not c.0, related_known c.0 q.1 c.1 (role_stays q.0 c.0 f q.1 h) k)))
partner_keeps s line (role ∷ filler ∷ another ∷ rest) = tt

complement_keeps : (s : Naming) (line : ℕ) (items : List Item) → Keeps KnowsPart s (complement_of s line items)
unfolding complement_of
complement_keeps s line [] = tt
complement_keeps s line (item ∷ []) = keeps_then KnowsBasic KnowsPart s (basic_at s item) (λ x. Ok (x.0, Outside x.1)) (basic_keeps s item) (λ x g h. (grows_not x.0, h))
complement_keeps s line (item ∷ another ∷ rest) = tt

single_keeps : (s : Naming) (line : ℕ) (text : List ℕ) (items : List Item) → Keeps KnowsPart s (single_right s line text items)
unfolding single_right
single_keeps s line text items =
    keeps_if KnowsPart s (bytes_eq text (codes "ObjectComplementOf")) (complement_of s line items) _ (complement_keeps s line items)
    (keeps_if KnowsPart s (bytes_eq text (codes "ObjectSomeValuesFrom")) (partner_in s line items) _ (partner_keeps s line items)
    (keeps_then KnowsBasic KnowsPart s (existential_at s line text items) (λ x. Ok (x.0, Within x.1)) (existential_keeps s line text items) (λ x g h. (grows_not x.0, h))))

parts_of_known : (s : Naming) (c : Concept) → KnowsAny s c → KnowsParts s (parts_of c)
parts_of_known s concepts.Thing h = All-nil (KnowsPart s)
parts_of_known s concepts.Nothing h = All-cons (KnowsPart s) Empty [] tt (All-nil (KnowsPart s))
parts_of_known s (concepts.Basic b) h = All-cons (KnowsPart s) (Within b) [] h (All-nil (KnowsPart s))

named_right_keeps : (s : Naming) (item : Item) → Keeps KnowsParts s (named_right s item)
unfolding named_right
named_right_keeps s item = keeps_then KnowsAny KnowsParts s (concept_at s item) (λ x. Ok (x.0, parts_of x.1)) (concept_keeps s item) (λ x g h. (grows_not x.0, parts_of_known x.0 x.1 h))

module _ (within : Naming → Result (Naming × List Part) Refusal) (keeps : (s : Naming) → Keeps KnowsParts s (within s)) where
  word_right_keeps : (s : Naming) (line : ℕ) (text : List ℕ) (items : List Item) → Keeps KnowsParts s (word_right within s line text items)
  unfolding word_right
  word_right_keeps s line text items =
      keeps_if KnowsParts s (bytes_eq text (codes "ObjectIntersectionOf")) _ _
      (keeps_if KnowsParts s (nat_le 2 (length items)) (within s) (Err (line, refused.Syntax)) (keeps s) tt)
      (keeps_then KnowsPart KnowsParts s (single_right s line text items) (λ x. Ok (x.0, x.1 ∷ [])) (single_keeps s line text items)
      (λ x g h. (grows_not x.0, All-cons (KnowsPart x.0) x.1 [] h (All-nil (KnowsPart x.0)))))

  right_by_keeps : (s : Naming) (item : Item) (o : Option (ℕ × List ℕ × List Item)) → Keeps KnowsParts s (right_by within s item o)
  right_by_keeps s item None = named_right_keeps s item
  right_by_keeps s item (Some w) = word_right_keeps s w.0 w.1 w.2

  right_with_keeps : (s : Naming) (item : Item) → Keeps KnowsParts s (right_with within s item)
  unfolding right_with
  right_with_keeps s item = right_by_keeps s item (word_in item)

nothing_keeps : (s : Naming) → Keeps KnowsParts s (Ok (s, []))
nothing_keeps s = (grows_not s, All-nil (KnowsPart s))

front_keeps : (s t : Naming) (front : List Part) (r : Result (Naming × List Part) Refusal) → KnowsParts t front → Keeps KnowsParts t r → Keeps KnowsParts t (with_front front r)
front_keeps s t front (Ok x) h k = (k.0, All-append (KnowsPart x.0) front x.1 (parts_stay t x.0 k.0 front h) k.1)
front_keeps s t front (Err e) h k = tt

rights_keeps : (s : Naming) (f : Forest) → Keeps KnowsParts s (rights_in s f)
unfolding rights_in
rights_keeps s none = nothing_keeps s
rights_keeps s (leaf before it) =
    keeps_then KnowsParts KnowsParts s (rights_in s before) (λ x. with_front x.1 (right_with (λ u. Ok (u, [])) x.0 (Single it))) (rights_keeps s before)
    (λ x g h. front_keeps s x.0 x.1 _ h (right_with_keeps (λ u. Ok (u, [])) nothing_keeps x.0 (Single it)))
rights_keeps s (word before line text args) =
    keeps_then KnowsParts KnowsParts s (rights_in s before) (λ x. with_front x.1 (right_with (λ u. rights_in u args) x.0 (Word line text args))) (rights_keeps s before)
    (λ x g h. front_keeps s x.0 x.1 _ h (right_with_keeps (λ u. rights_in u args) (λ u. rights_keeps u args) x.0 (Word line text args)))
rights_keeps s (group before line args) =
    keeps_then KnowsParts KnowsParts s (rights_in s before) (λ x. with_front x.1 (right_with (λ u. rights_in u args) x.0 (Group line args))) (rights_keeps s before)
    (λ x g h. front_keeps s x.0 x.1 _ h (right_with_keeps (λ u. rights_in u args) (λ u. rights_keeps u args) x.0 (Group line args)))

pub right_keeps : (s : Naming) (item : Item) → Keeps KnowsParts s (right_at s item)
right_keeps s (Single it) = right_with_keeps (λ u. Ok (u, [])) nothing_keeps s (Single it)
right_keeps s (Word line text args) = right_with_keeps (λ u. rights_in u args) (λ u. rights_keeps u args) s (Word line text args)
right_keeps s (Group line args) = right_with_keeps (λ u. rights_in u args) (λ u. rights_keeps u args) s (Group line args)

-- literals leave the terms as they are
valued_keeps : (s : Naming) (line : ℕ) (datatype tag : List ℕ) (o : Option (List ℕ)) → Keeps {X = Value} Anything s (valued s line datatype tag o)
valued_keeps s line datatype tag None = tt
valued_keeps s line datatype tag (Some text) = (grows_not s, tt)

value_keeps : (s : Naming) (line : ℕ) (raw datatype tag : List ℕ) → Keeps {X = Value} Anything s (value_of s line raw datatype tag)
unfolding value_of
value_keeps s line raw datatype tag = valued_keeps s line datatype tag _

datatype_keeps : (s : Naming) (line : ℕ) (datatype : Datatype) → Keeps {X = List ℕ} Anything s (datatype_at s line datatype)
unfolding datatype_at
datatype_keeps s line untyped = (grows_not s, tt)
datatype_keeps s line other = tt
datatype_keeps s line (by_iri at text) = (grows_not s, tt)
datatype_keeps s line (by_name at prefix local) = same_scope s (resolved s.prefixes at prefix local)

no_literal : (s : Naming) (item : Item) → Keeps {X = Value} Anything s (name_at refused.Syntax s item >>= λ name. Err (line_of item, refused.Syntax))
no_literal s item = keeps_then {X = List ℕ} Anything Anything s (name_at refused.Syntax s item) (λ name. Err (line_of item, refused.Syntax)) (name_keeps refused.Syntax s item) (λ x g h. tt)

pub literal_keeps : (s : Naming) (item : Item) → Keeps {X = Value} Anything s (literal_at s item)
unfolding literal_at
literal_keeps s (Single (literal line text tag datatype)) =
    keeps_then {X = List ℕ} Anything Anything s (datatype_at s line datatype) (λ name. value_of name.0 line text name.1 tag) (datatype_keeps s line datatype)
    (λ x g h. value_keeps x.0 line text x.1 tag)
literal_keeps s (Single (iri line text)) = no_literal s (Single (iri line text))
literal_keeps s (Single (blank line text)) = no_literal s (Single (blank line text))
literal_keeps s (Single (digits line text)) = no_literal s (Single (digits line text))
literal_keeps s (Single (prefixed line prefix local)) = no_literal s (Single (prefixed line prefix local))
literal_keeps s (Word line text args) = no_literal s (Word line text args)
literal_keeps s (Group line args) = no_literal s (Group line args)
