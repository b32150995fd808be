-- Why two start rows of one individual collide.
use Rattle.std.specs.Prelude.{◌≡◌, ◌≢◌, ℕ, ◌⊎◌, List}
use Rattle.dl_base.specs.declared.axioms.Axiom.{Axiom}
use Rattle.dl_base.specs.declared.names.Value.{Value}
use Rattle.dl_base.specs.declared.terms.Term.{Term}
use Rattle.dl_base.specs.declared.terms.RoleSide.{RoleSide}
use Rattle.dl_laws.specs.Rows.{Start, OfConcept, OfRole, OfAttr, concept}
use Rattle.dl_laws.specs.Meeting.{SomeAxiom, PartsConcepts, PartsRoles, PartsAttrs, BindsRoles, BindsAttrs, RangesAttrs}

abbrev pub RoleWhy : List Axiom → List ℕ → List ℕ → RoleSide → RoleSide → Type 0
RoleWhy axioms b d q r = ((b ≡ d) × SomeAxiom axioms (PartsRoles axioms q r)) ⊎ ((b ≢ d) × SomeAxiom axioms (BindsRoles axioms q r))

abbrev pub AttrWhy : List Axiom → Value → Value → Term → Term → Type 0
AttrWhy axioms x y u w = ((x ≡ y) × (SomeAxiom axioms (PartsAttrs axioms u w) ⊎ SomeAxiom axioms (RangesAttrs axioms u w x.datatype))) ⊎ ((x ≢ y) × SomeAxiom axioms (BindsAttrs axioms u w))

abbrev pub KindWhy : List Axiom → Start → Start → Type 0
KindWhy axioms (OfConcept a b) t = ⊥
KindWhy axioms (OfRole a b q) (OfConcept c d) = ⊥
KindWhy axioms (OfRole a b q) (OfRole c d r) = RoleWhy axioms b d q r
KindWhy axioms (OfRole a b q) (OfAttr c y w) = ⊥
KindWhy axioms (OfAttr a x u) (OfConcept c d) = ⊥
KindWhy axioms (OfAttr a x u) (OfRole c d r) = ⊥
KindWhy axioms (OfAttr a x u) (OfAttr c y w) = AttrWhy axioms x y u w

abbrev pub ConceptWhy : List Axiom → Start → Start → Type 0
ConceptWhy axioms s t = SomeAxiom axioms (PartsConcepts axioms (concept s) (concept t))
