-- The words of the axioms and of the declared things.
use Rattle.std.specs.Prelude.{ℕ, List, Option, Some, None, codes, if◌then◌else◌}
use Rattle.std.specs.Str.{bytes_eq}
use Rattle.owl_read.specs.declared.forms.Form.{Form}
use Rattle.owl_read.specs.declared.forms.Form.TheVariants as forms
use Rattle.owl_read.specs.declared.forms.ClassForm.{ClassForm}
use Rattle.owl_read.specs.declared.forms.ClassForm.TheVariants as class_forms
use Rattle.owl_read.specs.declared.forms.RoleForm.{RoleForm}
use Rattle.owl_read.specs.declared.forms.RoleForm.TheVariants as role_forms
use Rattle.owl_read.specs.declared.forms.AttrForm.{AttrForm}
use Rattle.owl_read.specs.declared.forms.AttrForm.TheVariants as attr_forms
use Rattle.owl_read.specs.declared.forms.FactForm.{FactForm}
use Rattle.owl_read.specs.declared.forms.FactForm.TheVariants as fact_forms
use Rattle.owl_read.specs.declared.forms.NoteForm.{NoteForm}
use Rattle.owl_read.specs.declared.forms.NoteForm.TheVariants as note_forms
use Rattle.owl_read.specs.declared.forms.Entity.{Entity}
use Rattle.owl_read.specs.declared.forms.Entity.TheVariants as entities

-- axioms about classes
unfoldable pub class_form : List ℕ → Option ClassForm
class_form word =
    if bytes_eq word (codes "SubClassOf") then Some class_forms.SubClassOf
    else (if bytes_eq word (codes "EquivalentClasses") then Some class_forms.EquivalentClasses
    else (if bytes_eq word (codes "DisjointClasses") then Some class_forms.DisjointClasses
    else None))

-- axioms about object properties
unfoldable pub role_form : List ℕ → Option RoleForm
role_form word =
    if bytes_eq word (codes "SubObjectPropertyOf") then Some role_forms.SubObjectPropertyOf
    else (if bytes_eq word (codes "EquivalentObjectProperties") then Some role_forms.EquivalentObjectProperties
    else (if bytes_eq word (codes "DisjointObjectProperties") then Some role_forms.DisjointObjectProperties
    else (if bytes_eq word (codes "InverseObjectProperties") then Some role_forms.InverseObjectProperties
    else (if bytes_eq word (codes "ObjectPropertyDomain") then Some role_forms.ObjectPropertyDomain
    else (if bytes_eq word (codes "ObjectPropertyRange") then Some role_forms.ObjectPropertyRange
    else (if bytes_eq word (codes "SymmetricObjectProperty") then Some role_forms.SymmetricObjectProperty
    else (if bytes_eq word (codes "AsymmetricObjectProperty") then Some role_forms.AsymmetricObjectProperty
    else (if bytes_eq word (codes "FunctionalObjectProperty") then Some role_forms.FunctionalObjectProperty
    else (if bytes_eq word (codes "InverseFunctionalObjectProperty") then Some role_forms.InverseFunctionalObjectProperty
    else None)))))))))

-- axioms about data properties
unfoldable pub attr_form : List ℕ → Option AttrForm
attr_form word =
    if bytes_eq word (codes "SubDataPropertyOf") then Some attr_forms.SubDataPropertyOf
    else (if bytes_eq word (codes "EquivalentDataProperties") then Some attr_forms.EquivalentDataProperties
    else (if bytes_eq word (codes "DisjointDataProperties") then Some attr_forms.DisjointDataProperties
    else (if bytes_eq word (codes "DataPropertyDomain") then Some attr_forms.DataPropertyDomain
    else (if bytes_eq word (codes "DataPropertyRange") then Some attr_forms.DataPropertyRange
    else (if bytes_eq word (codes "FunctionalDataProperty") then Some attr_forms.FunctionalDataProperty
    else None)))))

-- axioms about individuals
unfoldable pub fact_form : List ℕ → Option FactForm
fact_form word =
    if bytes_eq word (codes "ClassAssertion") then Some fact_forms.ClassAssertion
    else (if bytes_eq word (codes "ObjectPropertyAssertion") then Some fact_forms.ObjectPropertyAssertion
    else (if bytes_eq word (codes "DataPropertyAssertion") then Some fact_forms.DataPropertyAssertion
    else (if bytes_eq word (codes "DifferentIndividuals") then Some fact_forms.DifferentIndividuals
    else None)))

-- declarations, and what has no meaning for facts
unfoldable pub note_form : List ℕ → Option NoteForm
note_form word =
    if bytes_eq word (codes "Import") then Some note_forms.Import
    else (if bytes_eq word (codes "Annotation") then Some note_forms.Annotation
    else (if bytes_eq word (codes "Declaration") then Some note_forms.Declaration
    else (if bytes_eq word (codes "AnnotationAssertion") then Some note_forms.AnnotationAssertion
    else (if bytes_eq word (codes "SubAnnotationPropertyOf") then Some note_forms.SubAnnotationPropertyOf
    else (if bytes_eq word (codes "AnnotationPropertyDomain") then Some note_forms.AnnotationPropertyDomain
    else (if bytes_eq word (codes "AnnotationPropertyRange") then Some note_forms.AnnotationPropertyRange
    else None))))))

-- the first that there is
abbrev pub or_map : {A : Type 0} → (A → Form) → Option A → Option Form → Option Form
or_map wrap (Some form) other = Some (wrap form)
or_map wrap None other = other

-- the form that the word of an axiom names
unfoldable pub form_of : List ℕ → Option Form
form_of word =
    or_map forms.Class (class_form word) (or_map forms.Role (role_form word) (or_map forms.Attr (attr_form word)
    (or_map forms.Fact (fact_form word) (or_map forms.Note (note_form word) None))))

-- what is declared
unfoldable pub entity_of : List ℕ → Option Entity
entity_of word =
    if bytes_eq word (codes "Class") then Some entities.Class
    else (if bytes_eq word (codes "ObjectProperty") then Some entities.ObjectProperty
    else (if bytes_eq word (codes "DataProperty") then Some entities.DataProperty
    else (if bytes_eq word (codes "AnnotationProperty") then Some entities.AnnotationProperty
    else (if bytes_eq word (codes "Datatype") then Some entities.Datatype
    else (if bytes_eq word (codes "NamedIndividual") then Some entities.NamedIndividual
    else None)))))
