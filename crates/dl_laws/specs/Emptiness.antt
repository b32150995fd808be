-- Predicates that nothing can have.
use Rattle.std.specs.Prelude.{◌≡◌, ◌≢◌, ℕ, ◌⊎◌, List, Contains}
use Rattle.dl_base.specs.declared.axioms.Axiom.{Axiom}
use Rattle.dl_base.specs.declared.axioms.Axiom.TheVariants.{ConceptApart, RoleApart, AttrApart, Range, FunctionalRole, FunctionalAttr, ConceptSome}
use Rattle.dl_base.specs.declared.names.Value.{Value}
use Rattle.dl_base.specs.declared.terms.Term.{Term}
use Rattle.dl_base.specs.declared.terms.RoleSide.{RoleSide}
use Rattle.dl_base.specs.declared.terms.RoleSide.TheVariants.{Direct}
use Rattle.dl_base.specs.declared.terms.Basic.{Basic}
use Rattle.dl_base.specs.declared.terms.Basic.TheVariants as basic
use Rattle.dl_base.specs.Derivation.{Named, HasConcept, HasRole, HasAttr, inverse}
use Rattle.dl_base.specs.Clash.{RoleReaches, AttrReaches}
use Rattle.dl_base.specs.Reach.{ConceptStep, ConceptReaches}
use Rattle.dl_laws.specs.Rows.{Oppose, Start, OfRole, OfAttr, subject, concept}

-- one row with the predicate alone derives a clash, for every choice of different names, and of the value
abbrev pub IsEmptyConcept : List Axiom → Basic → Type 0
IsEmptyConcept axioms b = (a : List ℕ) → Oppose axioms (HasConcept (Named a) b) (HasConcept (Named a) b)

abbrev pub IsEmptyRole : List Axiom → Term → Type 0
IsEmptyRole axioms p = (a b : List ℕ) → a ≢ b → Oppose axioms (HasRole a b (Direct p)) (HasRole a b (Direct p))

abbrev pub IsEmptyAttr : List Axiom → Term → Type 0
IsEmptyAttr axioms u = (a : List ℕ) (v : Value) → Oppose axioms (HasAttr a v u) (HasAttr a v u)

-- who is in the first concept is in the second, or has a partner who is, or whose partner is, and so on
pub data NeedStep (axioms : List Axiom) : Basic → Basic → Type 0 where
  same : (b c : Basic) → ConceptStep axioms b c → NeedStep axioms b c
  partner : (q r : RoleSide) → r ≡ inverse q → NeedStep axioms (basic.Exists q) (basic.Exists r)
  filler : (b c : Basic) (q : RoleSide) → Contains axioms (ConceptSome b q c) → NeedStep axioms b c

pub data Needs (axioms : List Axiom) : Basic → Basic → Type 0 where
  itself : (b : Basic) → Needs axioms b b
  further : (b c d : Basic) → Needs axioms b c → NeedStep axioms c d → Needs axioms b d

-- what the witness of a role and a concept is in
abbrev pub IsFilled : List Axiom → RoleSide → Basic → Basic → Type 0
IsFilled axioms q e c = ConceptReaches axioms (basic.Exists (inverse q)) c ⊎ ConceptReaches axioms e c

-- who is in the concept contradicts the axioms at once, or by its value, or at its witness
pub data IsContradictory (axioms : List Axiom) : Basic → Type 0 where
  concepts : (c d e : Basic) → Contains axioms (ConceptApart d e) → ConceptReaches axioms c d → ConceptReaches axioms c e → IsContradictory axioms c
  roles : (q r s : RoleSide) → Contains axioms (RoleApart r s) → RoleReaches axioms q r → RoleReaches axioms q s → IsContradictory axioms (basic.Exists q)
  attrs : (u v w : Term) → Contains axioms (AttrApart v w) → AttrReaches axioms u v → AttrReaches axioms u w → IsContradictory axioms (basic.Domain u)
  ranges : (u v w : Term) (d e : List ℕ) → Contains axioms (Range v d) → Contains axioms (Range w e) → d ≢ e → AttrReaches axioms u v → AttrReaches axioms u w → IsContradictory axioms (basic.Domain u)
  fillers : (b c d e : Basic) (q : RoleSide) → Contains axioms (ConceptSome b q c) → Contains axioms (ConceptApart d e) → IsFilled axioms q c d → IsFilled axioms q c e → IsContradictory axioms b

abbrev pub IsUnsatisfiable : List Axiom → Basic → Type 0
IsUnsatisfiable axioms b = (c : Basic) × Needs axioms b c × IsContradictory axioms c

-- what two rows say of named individuals contradicts the axioms
pub data Collide (axioms : List Axiom) (s t : Start) : Type 0 where
  concepts : (b c : Basic) → subject s ≡ subject t → Contains axioms (ConceptApart b c) → ConceptReaches axioms (concept s) b → ConceptReaches axioms (concept t) c → Collide axioms s t
  roles : (a b : List ℕ) (q r v w : RoleSide) → s ≡ OfRole a b q → t ≡ OfRole a b r → Contains axioms (RoleApart v w) → RoleReaches axioms q v → RoleReaches axioms r w → Collide axioms s t
  attrs : (a : List ℕ) (x : Value) (q r v w : Term) → s ≡ OfAttr a x q → t ≡ OfAttr a x r → Contains axioms (AttrApart v w) → AttrReaches axioms q v → AttrReaches axioms r w → Collide axioms s t
  partners : (a b c : List ℕ) (q r v : RoleSide) → s ≡ OfRole a b q → t ≡ OfRole a c r → Contains axioms (FunctionalRole v) → b ≢ c → RoleReaches axioms q v → RoleReaches axioms r v → Collide axioms s t
  values : (a : List ℕ) (x y : Value) (q r v : Term) → s ≡ OfAttr a x q → t ≡ OfAttr a y r → Contains axioms (FunctionalAttr v) → x ≢ y → AttrReaches axioms q v → AttrReaches axioms r v → Collide axioms s t
  range : (a : List ℕ) (x : Value) (q r v : Term) (d : List ℕ) → s ≡ OfAttr a x q → t ≡ OfAttr a x r → Contains axioms (Range v d) → x.datatype ≢ d → AttrReaches axioms q v → AttrReaches axioms r v → Collide axioms s t
