-- What makes two start rows collide, an axiom at a time.
use Rattle.std.specs.Prelude.{◌≡◌, ◌≢◌, ◌⊎◌, ℕ, List, Contains}
use Rattle.dl_base.specs.declared.axioms.Axiom.{Axiom}
use Rattle.dl_base.specs.declared.axioms.Axiom.TheVariants.{ConceptApart, RoleApart, AttrApart, Range, FunctionalRole, FunctionalAttr}
use Rattle.dl_base.specs.declared.terms.Term.{Term}
use Rattle.dl_base.specs.declared.terms.RoleSide.{RoleSide}
use Rattle.dl_base.specs.declared.terms.Basic.{Basic}
use Rattle.dl_base.specs.Clash.{RoleReaches, AttrReaches}
use Rattle.dl_base.specs.Reach.{ConceptReaches}

-- the axiom says that something above b and something above c are disjoint
abbrev pub PartsConcepts : List Axiom → Basic → Basic → Axiom → Type 0
PartsConcepts axioms b c it = (d : Basic) × (e : Basic) × (it ≡ ConceptApart d e) × ConceptReaches axioms b d × ConceptReaches axioms c e

abbrev pub PartsRoles : List Axiom → RoleSide → RoleSide → Axiom → Type 0
PartsRoles axioms q r it = (v : RoleSide) × (w : RoleSide) × (it ≡ RoleApart v w) × RoleReaches axioms q v × RoleReaches axioms r w

abbrev pub PartsAttrs : List Axiom → Term → Term → Axiom → Type 0
PartsAttrs axioms q r it = (v : Term) × (w : Term) × (it ≡ AttrApart v w) × AttrReaches axioms q v × AttrReaches axioms r w

-- the axiom says that something above both is functional
abbrev pub BindsRoles : List Axiom → RoleSide → RoleSide → Axiom → Type 0
BindsRoles axioms q r it = (v : RoleSide) × (it ≡ FunctionalRole v) × RoleReaches axioms q v × RoleReaches axioms r v

abbrev pub BindsAttrs : List Axiom → Term → Term → Axiom → Type 0
BindsAttrs axioms q r it = (v : Term) × (it ≡ FunctionalAttr v) × AttrReaches axioms q v × AttrReaches axioms r v

-- the axiom says that something above both has another range than the datatype
abbrev pub RangesAttrs : List Axiom → Term → Term → List ℕ → Axiom → Type 0
RangesAttrs axioms q r d it = (v : Term) × (e : List ℕ) × (it ≡ Range v e) × (d ≢ e) × AttrReaches axioms q v × AttrReaches axioms r v

-- an axiom of the list does
abbrev pub SomeAxiom : List Axiom → (Axiom → Type 0) → Type 0
SomeAxiom axioms P = (it : Axiom) × Contains axioms it × P it

-- a range above the attribute is another than d
abbrev pub HasOtherRange : List Axiom → Term → List ℕ → Axiom → Type 0
HasOtherRange axioms u d it = (w : Term) × (e : List ℕ) × (it ≡ Range w e) × (d ≢ e) × AttrReaches axioms u w

-- the axiom is a range above the attribute, and there is another above it
abbrev pub HasTwoRanges : List Axiom → Term → Axiom → Type 0
HasTwoRanges axioms u it = (v : Term) × (d : List ℕ) × (it ≡ Range v d) × AttrReaches axioms u v × ((other : Axiom) × Contains axioms other × HasOtherRange axioms u d other)

-- an axiom says that something above the one and something above the other are disjoint, in one order or in the other
abbrev pub AreDisjointConcepts : List Axiom → Basic → Basic → Type 0
AreDisjointConcepts axioms b c = SomeAxiom axioms (PartsConcepts axioms b c) ⊎ SomeAxiom axioms (PartsConcepts axioms c b)

abbrev pub AreDisjointRoles : List Axiom → RoleSide → RoleSide → Type 0
AreDisjointRoles axioms q r = SomeAxiom axioms (PartsRoles axioms q r) ⊎ SomeAxiom axioms (PartsRoles axioms r q)

abbrev pub AreDisjointAttrs : List Axiom → Term → Term → Type 0
AreDisjointAttrs axioms u w = SomeAxiom axioms (PartsAttrs axioms u w) ⊎ SomeAxiom axioms (PartsAttrs axioms w u)

-- something above both is functional
abbrev pub ShareFunctionalRole : List Axiom → RoleSide → RoleSide → Type 0
ShareFunctionalRole axioms q r = SomeAxiom axioms (BindsRoles axioms q r)

abbrev pub ShareFunctionalAttr : List Axiom → Term → Term → Type 0
ShareFunctionalAttr axioms u w = SomeAxiom axioms (BindsAttrs axioms u w)
