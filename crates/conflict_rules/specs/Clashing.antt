-- Which start rows of two facts clash, and which facts break a range.
use Rattle.std.specs.Prelude.{◌≡◌, ◌≢◌, ◌⊎◌, ℕ, List, Contains}
use Rattle.dl_base.specs.declared.axioms.Axiom.{Axiom}
use Rattle.dl_base.specs.declared.names.Value.{Value}
use Rattle.dl_base.specs.declared.statements.Fact.{Fact}
use Rattle.dl_base.specs.declared.statements.Fact.TheVariants as fact
use Rattle.dl_base.specs.declared.terms.Term.{Term}
use Rattle.dl_base.specs.declared.terms.RoleSide.{RoleSide}
use Rattle.dl_laws.specs.Emptiness.{IsUnsatisfiable}
use Rattle.dl_laws.specs.Meeting.{AreDisjointConcepts, AreDisjointRoles, AreDisjointAttrs, ShareFunctionalRole, ShareFunctionalAttr}
use Rattle.dl_laws.specs.Rows.{Start, OfConcept, OfRole, OfAttr, subject, concept, starts}
use Rattle.tbox_closure.specs.Tables.{IsRange}

-- disjoint roles to the same individual, or a functional one to two
abbrev pub RolesClash : List Axiom → List ℕ → List ℕ → RoleSide → RoleSide → Type 0
RolesClash axioms b d q r = ((b ≡ d) × AreDisjointRoles axioms q r) ⊎ ((b ≢ d) × ShareFunctionalRole axioms q r)

-- disjoint attributes of the same value, or a functional one of two
abbrev pub AttrsClash : List Axiom → Value → Value → Term → Term → Type 0
AttrsClash axioms x y u w = ((x ≡ y) × AreDisjointAttrs axioms u w) ⊎ ((x ≢ y) × ShareFunctionalAttr axioms u w)

abbrev pub KindsClash : List Axiom → Start → Start → Type 0
KindsClash axioms (OfConcept a b) t = ⊥
KindsClash axioms (OfRole a b q) (OfConcept c d) = ⊥
KindsClash axioms (OfRole a b q) (OfRole c d r) = RolesClash axioms b d q r
KindsClash axioms (OfRole a b q) (OfAttr c y w) = ⊥
KindsClash axioms (OfAttr a x u) (OfConcept c d) = ⊥
KindsClash axioms (OfAttr a x u) (OfRole c d r) = ⊥
KindsClash axioms (OfAttr a x u) (OfAttr c y w) = AttrsClash axioms x y u w

-- the two rows are of one individual, and their concepts are disjoint or their roles or attributes clash
abbrev pub StartsClash : List Axiom → Start → Start → Type 0
StartsClash axioms s t = (subject s ≡ subject t) × (AreDisjointConcepts axioms (concept s) (concept t) ⊎ KindsClash axioms s t)

-- the row clashes with one of the fact
abbrev pub ClashesWith : List Axiom → Start → Fact → Type 0
ClashesWith axioms s g = (t : Start) × Contains (starts g) t × StartsClash axioms s t

-- a row of the one fact clashes with one of the other
abbrev pub FactsClash : List Axiom → Fact → Fact → Type 0
FactsClash axioms f g = (s : Start) × Contains (starts f) s × ClashesWith axioms s g

-- nothing can be in a concept that a row of the fact is in
abbrev pub IsUnsatisfiableFact : List Axiom → Fact → Type 0
IsUnsatisfiableFact axioms f = (s : Start) × Contains (starts f) s × IsUnsatisfiable axioms (concept s)

-- the value's datatype is not a range of what is above the attribute
abbrev pub BreaksRange : List Axiom → Fact → Type 0
BreaksRange axioms (fact.Class c a) = ⊥
BreaksRange axioms (fact.Role p a b) = ⊥
BreaksRange axioms (fact.Attr u a v) = (d : List ℕ) × IsRange axioms u d × (v.datatype ≢ d)
