-- What reading a document keeps: what is read is an ontology, and its assertions are over it.
use Rattle.std.proofs.Common.{◌≡◌, ℕ, Bool, true, false, cond, List, [], ◌∷◌, ◌++◌, Option, Some, None, Result, Ok, Err, length, refl, sym}
use Rattle.std.specs.Prelude.{All, nat_lt}
use Rattle.std.specs.List.{list_any}
use Rattle.std.specs.Str.{bytes_eq}
use Rattle.std.proofs.lemmas.List.{append-nil}
use Rattle.std.proofs.lemmas.List.Elements.{All-nil, All-cons}
use Rattle.dl_base.specs.declared.axioms.Axiom.{Axiom}
use Rattle.dl_base.specs.declared.axioms.Axiom.TheVariants.{RoleIn, RoleApart, FunctionalRole, FunctionalAttr}
use Rattle.dl_base.specs.declared.names.Value.{Value}
use Rattle.dl_base.specs.declared.statements.Fact.{Fact}
use Rattle.dl_base.specs.declared.statements.Fact.TheVariants as fact
use Rattle.dl_base.specs.declared.terms.Basic.{Basic}
use Rattle.dl_base.specs.declared.terms.Basic.TheVariants as basic
use Rattle.dl_base.specs.declared.terms.Kind.TheVariants as kinds
use Rattle.dl_base.specs.declared.terms.RoleSide.{RoleSide}
use Rattle.dl_base.specs.declared.terms.RoleSide.TheVariants.{Direct, Inverse}
use Rattle.dl_base.specs.declared.terms.Term.{Term}
use Rattle.dl_base.specs.Derivation.{inverse}
use Rattle.dl_text.specs.declared.kinds.ReadKind.TheVariants as refused
use Rattle.owl_syntax.specs.Trees.{Forest, none, leaf, word, group}
use Rattle.owl_read.specs.declared.forms.Form.{Form}
use Rattle.owl_read.specs.declared.forms.Form.TheVariants as forms
use Rattle.owl_read.specs.declared.forms.ClassForm.{ClassForm}
use Rattle.owl_read.specs.declared.forms.ClassForm.TheVariants.{SubClassOf, EquivalentClasses, DisjointClasses}
use Rattle.owl_read.specs.declared.forms.RoleForm.{RoleForm}
use Rattle.owl_read.specs.declared.forms.RoleForm.TheVariants.{SubObjectPropertyOf, EquivalentObjectProperties, DisjointObjectProperties, InverseObjectProperties, ObjectPropertyDomain, ObjectPropertyRange, SymmetricObjectProperty, AsymmetricObjectProperty, FunctionalObjectProperty, InverseFunctionalObjectProperty}
use Rattle.owl_read.specs.declared.forms.AttrForm.{AttrForm}
use Rattle.owl_read.specs.declared.forms.AttrForm.TheVariants.{SubDataPropertyOf, EquivalentDataProperties, DisjointDataProperties, DataPropertyDomain, DataPropertyRange, FunctionalDataProperty}
use Rattle.owl_read.specs.declared.forms.FactForm.{FactForm}
use Rattle.owl_read.specs.declared.forms.FactForm.TheVariants.{ClassAssertion, ObjectPropertyAssertion, DataPropertyAssertion, DifferentIndividuals}
use Rattle.owl_read.specs.declared.forms.NoteForm.{NoteForm}
use Rattle.owl_read.specs.declared.forms.NoteForm.TheVariants.{Import, Annotation, Declaration, AnnotationAssertion, SubAnnotationPropertyOf, AnnotationPropertyDomain, AnnotationPropertyRange}
use Rattle.owl_read.specs.declared.forms.Entity.{Entity}
use Rattle.owl_read.specs.declared.forms.Entity.TheVariants as entities
use Rattle.owl_read.specs.declared.sides.ClassName.{ClassName}
use Rattle.owl_read.specs.declared.sides.ClassName.TheVariants as classes
use Rattle.owl_read.specs.declared.sides.Side.{Side}
use Rattle.owl_read.specs.declared.sides.Side.TheVariants as sides
use Rattle.owl_read.specs.declared.sides.Sort.{Sort}
use Rattle.owl_read.specs.declared.sides.Sort.TheVariants as sorts
use Rattle.owl_read.specs.Annotations.{is_annotation, is_blank, is_literal, note_named, note_at, subject_at, annotated_at, behind, annotation_of, annotation_at, front_by, front_behind, front_at, annotations_in, annotations_at, one_of, one_at, two_of, two_at, three_of, three_at, some_at}
use Rattle.owl_read.specs.Builtins.{is_fixed_note}
use Rattle.owl_read.specs.Concepts.{class_at, left_at, right_at}
use Rattle.owl_read.specs.Forms.{form_of, entity_of}
use Rattle.owl_read.specs.Items.{Item, Single, Word, Group, word_in, items_of, line_of}
use Rattle.owl_read.specs.Literals.{literal_at}
use Rattle.owl_read.specs.Outcomes.{Refusal, ◌>>=◌}
use Rattle.owl_read.specs.Places.{role_at, attr_at, individual_at, iri_at}
use Rattle.owl_read.specs.Rows.{Reading, moved, giving, asserting, skipping, side_at, sides_at, listed_at, equivalent, disjoint, sub_property, sub_class, class_row, inverse_row, limited_by, domain_row, range_row, one_role, role_row, attr_domain_row, attr_range_row, functional_attr_row, attr_row, asserted_class, in_class, class_fact, role_fact, object_fact, data_fact, different_at, different_row, fact_row, entity_named, entity_in, entity_by, entity_in_word, entity_at, declaration, note_assertion, note_pair, note_iri, note_row, form_row, row, taken_by, taken}
use Rattle.owl_read.specs.Scopes.{Naming, name_at, term_named, property_at}
use Rattle.owl_read.specs.Table.{included, ring, all_apart, limited, subclass, ranged}
use Rattle.owl_read.proofs.KeepLaws.{Grows, grows_not, grows_on, Keeps, keeps_then, Anything, OfKind, term_keeps, name_keeps, property_keeps}
use Rattle.owl_read.proofs.KeepPlaces.{KnowsRoleIn, KnowsBasic, KnowsClass, KnowsSide, KnowsParts, role_stays, basic_stays, side_stays, role_keeps, class_keeps, left_keeps, right_keeps, literal_keeps}
use Rattle.owl_read.proofs.KeepTable.{AxiomIn, AxiomsIn, FactIn, no_axioms, one_axiom, both, inverse_known, included_known, ring_known, apart_all_known, limited_known, subclass_known, ranged_known}

-- where reading goes on, the terms grow
abbrev pub KeepsTerms : Naming → Result Naming Refusal → Type 0
KeepsTerms s (Ok t) = Grows s t
KeepsTerms s (Err e) = Unit {0}

terms_on : (s t : Naming) (r : Result Naming Refusal) → Grows s t → KeepsTerms t r → KeepsTerms s r
terms_on s t (Ok u) g k = grows_on s t u g k
terms_on s t (Err e) g k = tt

module _ {X : Type 0} (P : Naming → X → Type 0) where
  terms_then : (s : Naming) (r : Result (Naming × X) Refusal) (f : Naming × X → Result Naming Refusal) → Keeps P s r
      → ((x : Naming × X) → Grows s x.0 → P x.0 x.1 → KeepsTerms x.0 (f x)) → KeepsTerms s (r >>= f)
  terms_then s (Ok x) f k h = terms_on s x.0 (f x) k.0 (h x k.0 k.1)
  terms_then s (Err e) f k h = tt

  grows_then : (s t : Naming) (r : Result (Naming × X) Refusal) → Grows s t → Keeps P t r → Keeps P s r
  grows_then s t (Ok x) g k = (grows_on s t x.0 g k.0, k.1)
  grows_then s t (Err e) g k = tt

  after_terms : (s : Naming) (r : Result Naming Refusal) (f : Naming → Result (Naming × X) Refusal) → KeepsTerms s r → ((t : Naming) → Grows s t → Keeps P t (f t)) → Keeps P s (r >>= f)
  after_terms s (Ok t) f k h = grows_then s t (f t) k (h t k)
  after_terms s (Err e) f k h = tt

  only_terms : (s : Naming) (r : Result (Naming × X) Refusal) → Keeps P s r → KeepsTerms s (r >>= λ x. Ok x.0)
  only_terms s (Ok x) k = k.0
  only_terms s (Err e) k = tt

terms_twice : (s : Naming) (r : Result Naming Refusal) (f : Naming → Result Naming Refusal) → KeepsTerms s r → ((t : Naming) → KeepsTerms t (f t)) → KeepsTerms s (r >>= f)
terms_twice s (Ok t) f k h = terms_on s t (f t) k (h t)
terms_twice s (Err e) f k h = tt

terms_if : (s : Naming) (b : Bool) (r q : Result Naming Refusal) → KeepsTerms s r → KeepsTerms s q → KeepsTerms s (cond b r q)
terms_if s true r q h k = h
terms_if s false r q h k = k

-- annotations
note_keeps : (s : Naming) (item : Item) → KeepsTerms s (note_at s item)
unfolding note_at note_named
note_keeps s item =
    terms_then {X = List ℕ} Anything s (name_at refused.Syntax s item) (λ name. note_named name.0 (line_of item) name.1) (name_keeps refused.Syntax s item)
    (λ x g h. terms_if x.0 (is_fixed_note x.1) (Ok x.0) _ (grows_not x.0) (only_terms (OfKind kinds.Note) x.0 (term_named kinds.Note x.0 (line_of item) x.1) (term_keeps kinds.Note x.0 (line_of item) x.1)))

iri_terms : (s : Naming) (item : Item) → KeepsTerms s (iri_at s item >>= λ x. Ok x.0)
iri_terms s item = only_terms {X = List ℕ} Anything s (iri_at s item) (name_keeps refused.Syntax s item)

subject_keeps : (s : Naming) (item : Item) → KeepsTerms s (subject_at s item)
unfolding subject_at
subject_keeps s item = terms_if s (is_blank item) (Ok s) _ (grows_not s) (iri_terms s item)

annotated_keeps : (s : Naming) (item : Item) → KeepsTerms s (annotated_at s item)
unfolding annotated_at
annotated_keeps s item = terms_if s (is_literal item) _ (subject_at s item) (only_terms {X = Value} Anything s (literal_at s item) (literal_keeps s item)) (subject_keeps s item)

module _ (within : Naming → Result Naming Refusal) (keeps : (s : Naming) → KeepsTerms s (within s)) where
  annotation_keeps : (s : Naming) (line : ℕ) (items : List Item) → KeepsTerms s (annotation_of within s line items)
  unfolding annotation_of
  annotation_keeps s line [] = tt
  annotation_keeps s line (property ∷ []) = tt
  annotation_keeps s line (property ∷ value ∷ []) =
      terms_twice s (within s) (λ t. note_at t property >>= λ u. annotated_at u value) (keeps s)
      (λ t. terms_twice t (note_at t property) (λ u. annotated_at u value) (note_keeps t property) (λ u. annotated_keeps u value))
  annotation_keeps s line (property ∷ value ∷ another ∷ rest) = tt

  front_by_keeps : (s : Naming) (o : Option (ℕ × List ℕ × List Item)) → Keeps {X = Bool} Anything s (front_by within s o)
  front_by_keeps s None = (grows_not s, tt)
  front_by_keeps s (Some w) = by (is_annotation w.1)
    where
      by : (b : Bool) → Keeps {X = Bool} Anything s (cond b (annotation_of within s w.0 (behind w.2) >>= λ t. Ok (t, true)) (Ok (s, false)))
      by true = after_terms {X = Bool} Anything s (annotation_of within s w.0 (behind w.2)) (λ t. Ok (t, true)) (annotation_keeps s w.0 (behind w.2)) (λ t g. (grows_not t, tt))
      by false = (grows_not s, tt)

  front_behind_keeps : (x : Naming × Bool) (item : Item) → Keeps {X = Bool} Anything x.0 (front_behind within x item)
  front_behind_keeps (s, true) item = front_by_keeps s (word_in item)
  front_behind_keeps (s, false) item = (grows_not s, tt)

fronts_keep : (s : Naming) (f : Forest) → Keeps {X = Bool} Anything s (annotations_in s f)
unfolding annotations_in
fronts_keep s none = (grows_not s, tt)
fronts_keep s (leaf before it) =
    keeps_then {X = Bool} {Y = Bool} Anything Anything s (annotations_in s before) (λ x. front_behind (λ u. Ok u) x (Single it)) (fronts_keep s before) (λ x g h. front_behind_keeps (λ u. Ok u) grows_not x (Single it))
fronts_keep s (word before line text args) =
    keeps_then {X = Bool} {Y = Bool} Anything Anything s (annotations_in s before) (λ x. front_behind (λ u. annotations_in u args >>= λ y. Ok y.0) x (Word line text args)) (fronts_keep s before)
    (λ x g h. front_behind_keeps (λ u. annotations_in u args >>= λ y. Ok y.0) (λ u. only_terms {X = Bool} Anything u (annotations_in u args) (fronts_keep u args)) x (Word line text args))
fronts_keep s (group before line args) =
    keeps_then {X = Bool} {Y = Bool} Anything Anything s (annotations_in s before) (λ x. front_behind (λ u. Ok u) x (Group line args)) (fronts_keep s before) (λ x g h. front_behind_keeps (λ u. Ok u) grows_not x (Group line args))

front_keeps : (s : Naming) (item : Item) → Keeps {X = Bool} Anything s (front_at s item)
unfolding front_at
front_keeps s (Word line text args) =
    front_by_keeps (λ u. annotations_in u args >>= λ y. Ok y.0) (λ u. only_terms {X = Bool} Anything u (annotations_in u args) (fronts_keep u args)) s (Some (line, text, items_of args))
front_keeps s (Single it) = (grows_not s, tt)
front_keeps s (Group line args) = (grows_not s, tt)

annotations_keep : (items : List Item) (s : Naming) → KeepsTerms s (annotations_at s items)
unfolding annotations_at
annotations_keep [] s = grows_not s
annotations_keep (item ∷ items) s =
    terms_then {X = Bool} Anything s (front_at s item) (λ x. cond x.1 (annotations_at x.0 items) (Ok x.0)) (front_keeps s item)
    (λ x g h. terms_if x.0 x.1 (annotations_at x.0 items) (Ok x.0) (annotations_keep items x.0) (grows_not x.0))

-- the nodes behind the annotations
with_items : {X : Type 0} (s : Naming) (items : List Item) (x : X) → Keeps {X = X} Anything s (annotations_at s items >>= λ t. Ok (t, x))
with_items {X} s items x = after_terms {X = X} Anything s (annotations_at s items) (λ t. Ok (t, x)) (annotations_keep items s) (λ t g. (grows_not t, tt))

one_of_keeps : (s : Naming) (line : ℕ) (items rest : List Item) → Keeps {X = Item} Anything s (one_of s line items rest)
one_of_keeps s line items [] = tt
one_of_keeps s line items (one ∷ []) = with_items s items one
one_of_keeps s line items (one ∷ two ∷ rest) = tt

one_keeps : (s : Naming) (line : ℕ) (items : List Item) → Keeps {X = Item} Anything s (one_at s line items)
unfolding one_at
one_keeps s line items = one_of_keeps s line items (behind items)

abbrev Two : Type 0
Two = Item × Item

two_of_keeps : (s : Naming) (line : ℕ) (items rest : List Item) → Keeps {X = Two} Anything s (two_of s line items rest)
two_of_keeps s line items [] = tt
two_of_keeps s line items (one ∷ []) = tt
two_of_keeps s line items (one ∷ two ∷ []) = with_items s items (one, two)
two_of_keeps s line items (one ∷ two ∷ three ∷ rest) = tt

two_keeps : (s : Naming) (line : ℕ) (items : List Item) → Keeps {X = Two} Anything s (two_at s line items)
unfolding two_at
two_keeps s line items = two_of_keeps s line items (behind items)

abbrev Three : Type 0
Three = Item × Item × Item

three_of_keeps : (s : Naming) (line : ℕ) (items rest : List Item) → Keeps {X = Three} Anything s (three_of s line items rest)
three_of_keeps s line items [] = tt
three_of_keeps s line items (one ∷ []) = tt
three_of_keeps s line items (one ∷ two ∷ []) = tt
three_of_keeps s line items (one ∷ two ∷ three ∷ []) = with_items s items (one, two, three)
three_of_keeps s line items (one ∷ two ∷ three ∷ four ∷ rest) = tt

three_keeps : (s : Naming) (line : ℕ) (items : List Item) → Keeps {X = Three} Anything s (three_at s line items)
unfolding three_at
three_keeps s line items = three_of_keeps s line items (behind items)

some_keeps : (s : Naming) (line : ℕ) (items : List Item) → Keeps {X = List Item} Anything s (some_at s line items)
unfolding some_at
some_keeps s line items = by (nat_lt (length (behind items)) 2)
  where
    by : (b : Bool) → Keeps {X = List Item} Anything s (cond b (Err (line, refused.Syntax)) (annotations_at s items >>= λ t. Ok (t, behind items)))
    by true = tt
    by false = with_items s items (behind items)

-- sides
side_keeps : (sort : Sort) (s : Naming) (item : Item) → Keeps KnowsSide s (side_at sort s item)
unfolding side_at
side_keeps sorts.Concepts s item = left_keeps s item
side_keeps sorts.Roles s item = keeps_then KnowsRoleIn KnowsSide s (role_at s item) (λ x. Ok (x.0, sides.Role x.1)) (role_keeps s item) (λ x g h. (grows_not x.0, h))
side_keeps sorts.Attrs s item = keeps_then (OfKind kinds.Attr) KnowsSide s (attr_at s item) (λ x. Ok (x.0, sides.Attr x.1)) (property_keeps kinds.Attr s item) (λ x g h. (grows_not x.0, h))

abbrev KnowsSides : Naming → List Side → Type 0
KnowsSides s xs = All (KnowsSide s) xs

sides_keep : (sort : Sort) (items : List Item) (s : Naming) → Keeps KnowsSides s (sides_at sort s items)
unfolding sides_at
sides_keep sort [] s = (grows_not s, All-nil (KnowsSide s))
sides_keep sort (item ∷ items) s =
    keeps_then KnowsSide KnowsSides s (side_at sort s item) (λ one. sides_at sort one.0 items >>= λ others. Ok (others.0, one.1 ∷ others.1)) (side_keeps sort s item)
    (λ one g h. keeps_then KnowsSides KnowsSides one.0 (sides_at sort one.0 items) (λ others. Ok (others.0, one.1 ∷ others.1)) (sides_keep sort items one.0)
    (λ others f k. (grows_not others.0, All-cons (KnowsSide others.0) one.1 others.1 (side_stays one.0 others.0 f one.1 h) k)))

listed_keeps : (sort : Sort) (s : Naming) (line : ℕ) (items : List Item) → Keeps KnowsSides s (listed_at sort s line items)
unfolding listed_at
listed_keeps sort s line items = keeps_then {X = List Item} Anything KnowsSides s (some_at s line items) (λ x. sides_at sort x.0 x.1) (some_keeps s line items) (λ x g h. sides_keep sort x.1 x.0)

-- what a document says more is over its terms
pub record Kept (r q : Reading) : Type 0 where
  pub grows : Grows r.scope q.scope
  pub axioms : List Axiom
  pub axioms_are : q.axioms ≡ r.axioms ++ axioms
  pub axioms_in : AxiomsIn q.scope axioms
  pub facts : List Fact
  pub facts_are : q.facts ≡ r.facts ++ facts
  pub facts_in : All (FactIn q.scope) facts

abbrev pub KeepsReading : Reading → Result Reading Refusal → Type 0
KeepsReading r (Ok q) = Kept r q
KeepsReading r (Err e) = Unit {0}

module _ (r : Reading) where
  row_then : {X : Type 0} (P : Naming → X → Type 0) (s : Naming) (q : Result (Naming × X) Refusal) (f : Naming × X → Result Reading Refusal) → Grows r.scope s → Keeps P s q
      → ((x : Naming × X) → Grows r.scope x.0 → Grows s x.0 → P x.0 x.1 → KeepsReading r (f x)) → KeepsReading r (q >>= f)
  row_then P s (Ok x) f g k h = h x (grows_on r.scope s x.0 g k.0) k.0 k.1
  row_then P s (Err e) f g k h = tt

  row_terms : (q : Result Naming Refusal) (s : Naming) → Grows r.scope s → KeepsTerms s q → KeepsReading r (q >>= λ t. Ok (moved r t))
  row_terms (Ok t) s g k = record {
    grows = grows_on r.scope s t g k;
    axioms = [];
    axioms_are = sym (append-nil r.axioms);
    axioms_in = no_axioms t;
    facts = [];
    facts_are = sym (append-nil r.facts);
    facts_in = All-nil (FactIn t);
  }
  row_terms (Err e) s g k = tt

  gives : (s : Naming) (axioms : List Axiom) → Grows r.scope s → AxiomsIn s axioms → Kept r (giving r s axioms)
  gives s axioms g h = record {
    grows = g;
    axioms = axioms;
    axioms_are = refl;
    axioms_in = h;
    facts = [];
    facts_are = sym (append-nil r.facts);
    facts_in = All-nil (FactIn s);
  }

  asserts : (s : Naming) (f : Fact) → Grows r.scope s → FactIn s f → Kept r (asserting r s f)
  asserts s f g h = record {
    grows = g;
    axioms = [];
    axioms_are = sym (append-nil r.axioms);
    axioms_in = no_axioms s;
    facts = f ∷ [];
    facts_are = refl;
    facts_in = All-cons (FactIn s) f [] h (All-nil (FactIn s));
  }

  skips : (s : Naming) → Grows r.scope s → Kept r (skipping r s)
  skips s g = record {
    grows = g;
    axioms = [];
    axioms_are = sym (append-nil r.axioms);
    axioms_in = no_axioms s;
    facts = [];
    facts_are = sym (append-nil r.facts);
    facts_in = All-nil (FactIn s);
  }

  same : Grows r.scope r.scope
  same = grows_not r.scope

  module _ (line : ℕ) (items : List Item) where
    equivalent_keeps : (sort : Sort) → KeepsReading r (equivalent sort r line items)
    unfolding equivalent
    equivalent_keeps sort = row_then KnowsSides r.scope (listed_at sort r.scope line items) _ same (listed_keeps sort r.scope line items) (λ x g f h. gives x.0 (ring x.1) g (ring_known x.0 x.1 h))

    disjoint_keeps : (sort : Sort) → KeepsReading r (disjoint sort r line items)
    unfolding disjoint
    disjoint_keeps sort = row_then KnowsSides r.scope (listed_at sort r.scope line items) _ same (listed_keeps sort r.scope line items) (λ x g f h. gives x.0 (all_apart x.1) g (apart_all_known x.0 x.1 h))

    sub_property_keeps : (sort : Sort) → KeepsReading r (sub_property sort r line items)
    unfolding sub_property
    sub_property_keeps sort =
        row_then {X = Two} Anything r.scope (two_at r.scope line items) _ same (two_keeps r.scope line items)
        (λ x g h p. row_then KnowsSide x.0 (side_at sort x.0 x.1.0) _ g (side_keeps sort x.0 x.1.0)
        (λ one g1 h1 p1. row_then KnowsSide one.0 (side_at sort one.0 x.1.1) _ g1 (side_keeps sort one.0 x.1.1)
        (λ two g2 h2 p2. gives two.0 (included one.1 two.1) g2 (included_known two.0 one.1 two.1 (side_stays one.0 two.0 h2 one.1 p1) p2))))

    sub_class_keeps : KeepsReading r (sub_class r line items)
    unfolding sub_class
    sub_class_keeps =
        row_then {X = Two} Anything r.scope (two_at r.scope line items) _ same (two_keeps r.scope line items)
        (λ x g h p. row_then KnowsSide x.0 (left_at x.0 x.1.0) _ g (left_keeps x.0 x.1.0)
        (λ left g1 h1 p1. row_then KnowsParts left.0 (right_at left.0 x.1.1) _ g1 (right_keeps left.0 x.1.1)
        (λ right g2 h2 p2. gives right.0 (subclass left.1 right.1) g2 (subclass_known right.0 left.1 right.1 (side_stays left.0 right.0 h2 left.1 p1) p2))))

    class_row_keeps : (form : ClassForm) → KeepsReading r (class_row form r line items)
    unfolding class_row
    class_row_keeps SubClassOf = sub_class_keeps
    class_row_keeps EquivalentClasses = equivalent_keeps sorts.Concepts
    class_row_keeps DisjointClasses = disjoint_keeps sorts.Concepts

    inverse_keeps : KeepsReading r (inverse_row r line items)
    unfolding inverse_row
    inverse_keeps =
        row_then {X = Two} Anything r.scope (two_at r.scope line items) _ same (two_keeps r.scope line items)
        (λ x g h p. row_then KnowsRoleIn x.0 (role_at x.0 x.1.0) _ g (role_keeps x.0 x.1.0)
        (λ one g1 h1 p1. row_then KnowsRoleIn one.0 (role_at one.0 x.1.1) _ g1 (role_keeps one.0 x.1.1)
        (λ two g2 h2 p2.
        let q = role_stays one.0 two.0 h2 one.1 p1 in
        let i = inverse_known two.0 two.1 p2 in
        gives two.0 _ g2 (both two.0 _ _ (included_known two.0 (sides.Role one.1) (sides.Role (inverse two.1)) q i) (included_known two.0 (sides.Role (inverse two.1)) (sides.Role one.1) i q)))))

    limited_keeps : (s : Naming) (b : Basic) (item : Item) → Grows r.scope s → KnowsBasic s b → KeepsReading r (limited_by r s b item)
    unfolding limited_by
    limited_keeps s b item g h =
        row_then KnowsParts s (right_at s item) _ g (right_keeps s item) (λ x g1 h1 p1. gives x.0 (limited b x.1) g1 (limited_known x.0 b x.1 (basic_stays s x.0 h1 b h) p1))

    domain_keeps : KeepsReading r (domain_row r line items)
    unfolding domain_row
    domain_keeps =
        row_then {X = Two} Anything r.scope (two_at r.scope line items) _ same (two_keeps r.scope line items)
        (λ x g h p. row_then KnowsRoleIn x.0 (role_at x.0 x.1.0) _ g (role_keeps x.0 x.1.0) (λ q g1 h1 p1. limited_keeps q.0 (basic.Exists q.1) x.1.1 g1 p1))

    range_keeps : KeepsReading r (range_row r line items)
    unfolding range_row
    range_keeps =
        row_then {X = Two} Anything r.scope (two_at r.scope line items) _ same (two_keeps r.scope line items)
        (λ x g h p. row_then KnowsRoleIn x.0 (role_at x.0 x.1.0) _ g (role_keeps x.0 x.1.0) (λ q g1 h1 p1. limited_keeps q.0 (basic.Exists (inverse q.1)) x.1.1 g1 (inverse_known q.0 q.1 p1)))

    one_role_keeps : Keeps KnowsRoleIn r.scope (one_role r.scope line items)
    unfolding one_role
    one_role_keeps = keeps_then {X = Item} Anything KnowsRoleIn r.scope (one_at r.scope line items) (λ x. role_at x.0 x.1) (one_keeps r.scope line items) (λ x g h. role_keeps x.0 x.1)

    single_role : (f : RoleSide → Axiom) → ((s : Naming) (q : RoleSide) → KnowsRoleIn s q → AxiomIn s (f q)) → KeepsReading r (one_role r.scope line items >>= λ q. Ok (giving r q.0 (f q.1 ∷ [])))
    single_role f k = row_then KnowsRoleIn r.scope (one_role r.scope line items) _ same one_role_keeps (λ q g h p. gives q.0 (f q.1 ∷ []) g (one_axiom q.0 (f q.1) (k q.0 q.1 p)))

    role_row_keeps : (form : RoleForm) → KeepsReading r (role_row form r line items)
    unfolding role_row
    role_row_keeps SubObjectPropertyOf = sub_property_keeps sorts.Roles
    role_row_keeps EquivalentObjectProperties = equivalent_keeps sorts.Roles
    role_row_keeps DisjointObjectProperties = disjoint_keeps sorts.Roles
    role_row_keeps InverseObjectProperties = inverse_keeps
    role_row_keeps ObjectPropertyDomain = domain_keeps
    role_row_keeps ObjectPropertyRange = range_keeps
    role_row_keeps SymmetricObjectProperty = single_role (λ q. RoleIn q (inverse q)) (λ s q h. (h, inverse_known s q h))
    role_row_keeps AsymmetricObjectProperty = single_role (λ q. RoleApart q (inverse q)) (λ s q h. (h, inverse_known s q h))
    role_row_keeps FunctionalObjectProperty = single_role (λ q. FunctionalRole q) (λ s q h. h)
    role_row_keeps InverseFunctionalObjectProperty = single_role (λ q. FunctionalRole (inverse q)) (λ s q h. inverse_known s q h)

    attr_domain_keeps : KeepsReading r (attr_domain_row r line items)
    unfolding attr_domain_row
    attr_domain_keeps =
        row_then {X = Two} Anything r.scope (two_at r.scope line items) _ same (two_keeps r.scope line items)
        (λ x g h p. row_then (OfKind kinds.Attr) x.0 (attr_at x.0 x.1.0) _ g (property_keeps kinds.Attr x.0 x.1.0) (λ u g1 h1 p1. limited_keeps u.0 (basic.Domain u.1) x.1.1 g1 p1))

    attr_range_keeps : KeepsReading r (attr_range_row r line items)
    unfolding attr_range_row
    attr_range_keeps =
        row_then {X = Two} Anything r.scope (two_at r.scope line items) _ same (two_keeps r.scope line items)
        (λ x g h p. row_then (OfKind kinds.Attr) x.0 (attr_at x.0 x.1.0) _ g (property_keeps kinds.Attr x.0 x.1.0)
        (λ u g1 h1 p1. row_then {X = List ℕ} Anything u.0 (iri_at u.0 x.1.1) _ g1 (name_keeps refused.Syntax u.0 x.1.1)
        (λ d g2 h2 p2. gives d.0 (ranged u.1 d.1) g2 (ranged_known d.0 u.1 d.1 (basic_stays u.0 d.0 h2 (basic.Domain u.1) p1)))))

    functional_attr_keeps : KeepsReading r (functional_attr_row r line items)
    unfolding functional_attr_row
    functional_attr_keeps =
        row_then {X = Item} Anything r.scope (one_at r.scope line items) _ same (one_keeps r.scope line items)
        (λ x g h p. row_then (OfKind kinds.Attr) x.0 (attr_at x.0 x.1) _ g (property_keeps kinds.Attr x.0 x.1) (λ u g1 h1 p1. gives u.0 (FunctionalAttr u.1 ∷ []) g1 (one_axiom u.0 (FunctionalAttr u.1) p1)))

    attr_row_keeps : (form : AttrForm) → KeepsReading r (attr_row form r line items)
    unfolding attr_row
    attr_row_keeps SubDataPropertyOf = sub_property_keeps sorts.Attrs
    attr_row_keeps EquivalentDataProperties = equivalent_keeps sorts.Attrs
    attr_row_keeps DisjointDataProperties = disjoint_keeps sorts.Attrs
    attr_row_keeps DataPropertyDomain = attr_domain_keeps
    attr_row_keeps DataPropertyRange = attr_range_keeps
    attr_row_keeps FunctionalDataProperty = functional_attr_keeps

    abbrev KnowsAsserted : Naming → Option Term → Type 0
    KnowsAsserted s (Some c) = OfKind kinds.Class s c
    KnowsAsserted s None = Unit {0}

    asserted_keeps : (s : Naming) (at : ℕ) (c : ClassName) → KnowsClass s c → Keeps KnowsAsserted s (asserted_class s at c)
    asserted_keeps s at (classes.Named c) h = (grows_not s, h)
    asserted_keeps s at classes.Thing h = (grows_not s, tt)
    asserted_keeps s at classes.Nothing h = tt

    in_class_keeps : (s t : Naming) (c : Option Term) (a : List ℕ) → Grows r.scope t → Grows s t → KnowsAsserted s c → Kept r (in_class r t c a)
    in_class_keeps s t (Some c) a g h p = asserts t (fact.Class c a) g (basic_stays s t h (basic.Class c) p)
    in_class_keeps s t None a g h p = skips t g

    class_fact_keeps : KeepsReading r (class_fact r line items)
    unfolding class_fact
    class_fact_keeps =
        row_then {X = Two} Anything r.scope (two_at r.scope line items) _ same (two_keeps r.scope line items)
        (λ x g h p. row_then KnowsClass x.0 (class_at x.0 x.1.0) _ g (class_keeps x.0 x.1.0)
        (λ name g1 h1 p1. row_then KnowsAsserted name.0 (asserted_class name.0 (line_of x.1.0) name.1) _ g1 (asserted_keeps name.0 (line_of x.1.0) name.1 p1)
        (λ c g2 h2 p2. row_then {X = List ℕ} Anything c.0 (individual_at c.0 x.1.1) _ g2 (name_keeps refused.BlankNode c.0 x.1.1)
        (λ a g3 h3 p3. in_class_keeps c.0 a.0 c.1 a.1 g3 h3 p2))))

    role_fact_in : (s : Naming) (q : RoleSide) (a b : List ℕ) → KnowsRoleIn s q → FactIn s (role_fact q a b)
    role_fact_in s (Direct p) a b h = h
    role_fact_in s (Inverse p) a b h = h

    object_fact_keeps : KeepsReading r (object_fact r line items)
    unfolding object_fact
    object_fact_keeps =
        row_then {X = Three} Anything r.scope (three_at r.scope line items) _ same (three_keeps r.scope line items)
        (λ x g h p. row_then KnowsRoleIn x.0 (role_at x.0 x.1.0) _ g (role_keeps x.0 x.1.0)
        (λ q g1 h1 p1. row_then {X = List ℕ} Anything q.0 (individual_at q.0 x.1.1) _ g1 (name_keeps refused.BlankNode q.0 x.1.1)
        (λ a g2 h2 p2. row_then {X = List ℕ} Anything a.0 (individual_at a.0 x.1.2) _ g2 (name_keeps refused.BlankNode a.0 x.1.2)
        (λ b g3 h3 p3. asserts b.0 (role_fact q.1 a.1 b.1) g3 (role_fact_in b.0 q.1 a.1 b.1 (role_stays q.0 b.0 (grows_on q.0 a.0 b.0 h2 h3) q.1 p1))))))

    data_fact_keeps : KeepsReading r (data_fact r line items)
    unfolding data_fact
    data_fact_keeps =
        row_then {X = Three} Anything r.scope (three_at r.scope line items) _ same (three_keeps r.scope line items)
        (λ x g h p. row_then (OfKind kinds.Attr) x.0 (attr_at x.0 x.1.0) _ g (property_keeps kinds.Attr x.0 x.1.0)
        (λ u g1 h1 p1. row_then {X = List ℕ} Anything u.0 (individual_at u.0 x.1.1) _ g1 (name_keeps refused.BlankNode u.0 x.1.1)
        (λ a g2 h2 p2. row_then {X = Value} Anything a.0 (literal_at a.0 x.1.2) _ g2 (literal_keeps a.0 x.1.2)
        (λ v g3 h3 p3. asserts v.0 (fact.Attr u.1 a.1 v.1) g3 (basic_stays u.0 v.0 (grows_on u.0 a.0 v.0 h2 h3) (basic.Domain u.1) p1)))))

    different_keeps : (rest : List Item) (seen : List (List ℕ)) (s : Naming) → KeepsTerms s (different_at seen s rest)
    unfolding different_at
    different_keeps [] seen s = grows_not s
    different_keeps (item ∷ rest) seen s =
        terms_then {X = List ℕ} Anything s (individual_at s item) _ (name_keeps refused.BlankNode s item)
        (λ x g h. terms_if x.0 (list_any (λ (one : List ℕ). bytes_eq one x.1) seen) (Err (line_of item, refused.NotDlLite)) (different_at (x.1 ∷ seen) x.0 rest) tt (different_keeps rest (x.1 ∷ seen) x.0))

    different_row_keeps : KeepsReading r (different_row r line items)
    unfolding different_row
    different_row_keeps =
        row_then {X = List Item} Anything r.scope (some_at r.scope line items) _ same (some_keeps r.scope line items)
        (λ x g h p. row_terms (different_at [] x.0 x.1) x.0 g (different_keeps x.1 [] x.0))

    fact_row_keeps : (form : FactForm) → KeepsReading r (fact_row form r line items)
    unfolding fact_row
    fact_row_keeps ClassAssertion = class_fact_keeps
    fact_row_keeps ObjectPropertyAssertion = object_fact_keeps
    fact_row_keeps DataPropertyAssertion = data_fact_keeps
    fact_row_keeps DifferentIndividuals = different_row_keeps

entity_named_keeps : (entity : Entity) (s : Naming) (item : Item) → KeepsTerms s (entity_named entity s item)
unfolding entity_named
entity_named_keeps entities.Class s item = only_terms KnowsClass s (class_at s item) (class_keeps s item)
entity_named_keeps entities.ObjectProperty s item = only_terms (OfKind kinds.Role) s (property_at kinds.Role s item) (property_keeps kinds.Role s item)
entity_named_keeps entities.DataProperty s item = only_terms (OfKind kinds.Attr) s (property_at kinds.Attr s item) (property_keeps kinds.Attr s item)
entity_named_keeps entities.AnnotationProperty s item = note_keeps s item
entity_named_keeps entities.Datatype s item = iri_terms s item
entity_named_keeps entities.NamedIndividual s item = only_terms {X = List ℕ} Anything s (individual_at s item) (name_keeps refused.BlankNode s item)

entity_in_keeps : (s : Naming) (line : ℕ) (entity : Entity) (items : List Item) → KeepsTerms s (entity_in s line entity items)
entity_in_keeps s line entity [] = tt
entity_in_keeps s line entity (item ∷ []) = entity_named_keeps entity s item
entity_in_keeps s line entity (item ∷ another ∷ rest) = tt

entity_by_keeps : (s : Naming) (line : ℕ) (o : Option Entity) (items : List Item) → KeepsTerms s (entity_by s line o items)
entity_by_keeps s line (Some entity) items = entity_in_keeps s line entity items
entity_by_keeps s line None items = tt

entity_word_keeps : (s : Naming) (item : Item) (o : Option (ℕ × List ℕ × List Item)) → KeepsTerms s (entity_in_word s item o)
entity_word_keeps s item (Some w) = entity_by_keeps s w.0 (entity_of w.1) w.2
entity_word_keeps s item None = terms_then {X = List ℕ} Anything s (iri_at s item) (λ x. Err (line_of item, refused.Syntax)) (name_keeps refused.Syntax s item) (λ x g h. tt)

module _ (s : Naming) (line : ℕ) (items : List Item) where
  declaration_keeps : KeepsTerms s (declaration s line items)
  unfolding declaration entity_at
  declaration_keeps = terms_then {X = Item} Anything s (one_at s line items) (λ x. entity_in_word x.0 x.1 (word_in x.1)) (one_keeps s line items) (λ x g h. entity_word_keeps x.0 x.1 (word_in x.1))

  note_assertion_keeps : KeepsTerms s (note_assertion s line items)
  unfolding note_assertion
  note_assertion_keeps =
      terms_then {X = Three} Anything s (three_at s line items) _ (three_keeps s line items)
      (λ x g h. terms_twice x.0 (note_at x.0 x.1.0) _ (note_keeps x.0 x.1.0) (λ t. terms_twice t (subject_at t x.1.1) _ (subject_keeps t x.1.1) (λ u. annotated_keeps u x.1.2)))

  note_pair_keeps : KeepsTerms s (note_pair s line items)
  unfolding note_pair
  note_pair_keeps = terms_then {X = Two} Anything s (two_at s line items) _ (two_keeps s line items) (λ x g h. terms_twice x.0 (note_at x.0 x.1.0) _ (note_keeps x.0 x.1.0) (λ t. note_keeps t x.1.1))

  note_iri_keeps : KeepsTerms s (note_iri s line items)
  unfolding note_iri
  note_iri_keeps = terms_then {X = Two} Anything s (two_at s line items) _ (two_keeps s line items) (λ x g h. terms_twice x.0 (note_at x.0 x.1.0) _ (note_keeps x.0 x.1.0) (λ t. iri_terms t x.1.1))

  note_row_keeps : (form : NoteForm) → KeepsTerms s (note_row form s line items)
  unfolding note_row annotation_at
  note_row_keeps Import = tt
  note_row_keeps Annotation = annotation_keeps (λ t. annotations_at t items) (λ t. annotations_keep items t) s line (behind items)
  note_row_keeps Declaration = declaration_keeps
  note_row_keeps AnnotationAssertion = note_assertion_keeps
  note_row_keeps SubAnnotationPropertyOf = note_pair_keeps
  note_row_keeps AnnotationPropertyDomain = note_iri_keeps
  note_row_keeps AnnotationPropertyRange = note_iri_keeps

form_row_keeps : (form : Form) (r : Reading) (line : ℕ) (items : List Item) → KeepsReading r (form_row form r line items)
unfolding form_row
form_row_keeps (forms.Class form) r line items = class_row_keeps r line items form
form_row_keeps (forms.Role form) r line items = role_row_keeps r line items form
form_row_keeps (forms.Attr form) r line items = attr_row_keeps r line items form
form_row_keeps (forms.Fact form) r line items = fact_row_keeps r line items form
form_row_keeps (forms.Note form) r line items = row_terms r (note_row form r.scope line items) r.scope (grows_not r.scope) (note_row_keeps r.scope line items form)

row_keeps : (o : Option Form) (r : Reading) (line : ℕ) (items : List Item) → KeepsReading r (row o r line items)
row_keeps (Some form) r line items = form_row_keeps form r line items
row_keeps None r line items = tt

taken_by_keeps : (r : Reading) (item : Item) (o : Option (ℕ × List ℕ × List Item)) → KeepsReading r (taken_by r item o)
taken_by_keeps r item (Some w) = row_keeps (form_of w.1) r w.0 w.2
taken_by_keeps r item None =
    row_then r {X = List ℕ} Anything r.scope (iri_at r.scope item) (λ x. Ok (moved r x.0)) (grows_not r.scope) (name_keeps refused.Syntax r.scope item)
    (λ x g h p. row_terms r (Ok x.0) x.0 g (grows_not x.0))

pub taken_keeps : (r : Reading) (item : Item) → KeepsReading r (taken r item)
unfolding taken
taken_keeps r item = taken_by_keeps r item (word_in item)
