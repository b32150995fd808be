-- When one fact entails a fact that a pattern asks for, by reachability.
use Rattle.std.specs.Prelude.{◌≡◌, ◌≢◌, ◌⊎◌, ℕ, List, [], ◌∷◌}
use Rattle.dl_base.specs.declared.axioms.Axiom.{Axiom}
use Rattle.dl_base.specs.declared.names.Value.{Value}
use Rattle.dl_base.specs.declared.patterns.Pattern.{Pattern}
use Rattle.dl_base.specs.declared.patterns.Pattern.TheVariants as asked
use Rattle.dl_base.specs.declared.terms.Term.{Term}
use Rattle.dl_base.specs.declared.terms.RoleSide.{RoleSide}
use Rattle.dl_base.specs.declared.terms.RoleSide.TheVariants.{Direct, Inverse}
use Rattle.dl_base.specs.declared.terms.Basic.{Basic}
use Rattle.dl_base.specs.declared.terms.Basic.TheVariants as basic
use Rattle.dl_base.specs.declared.statements.Fact.{Fact}
use Rattle.dl_base.specs.declared.statements.Fact.TheVariants as fact
use Rattle.dl_base.specs.Clash.{RoleReaches, AttrReaches}
use Rattle.dl_base.specs.Derivation.{InClosure}
use Rattle.dl_base.specs.Patterns.{Matches}
use Rattle.dl_base.specs.Reach.{ConceptReaches}

-- the closure of the fact holds one that the pattern asks for
abbrev pub EntailsMatch : List Axiom → Fact → Pattern → Type 0
EntailsMatch axioms f p = (g : Fact) × InClosure axioms (f ∷ []) g × Matches p g

-- who is in the concept is in a class that is asked of the individual
abbrev pub ClassMatches : List Axiom → Basic → List ℕ → Pattern → Type 0
ClassMatches axioms from x (asked.Class c) = ConceptReaches axioms from (basic.Class c)
ClassMatches axioms from x (asked.ClassOf c a) = (a ≡ x) × ConceptReaches axioms from (basic.Class c)
ClassMatches axioms from x other = ⊥

-- who stand in the role stand in one that is asked of the two
abbrev pub RoleMatches : List Axiom → RoleSide → List ℕ → List ℕ → Pattern → Type 0
RoleMatches axioms from x y (asked.Role p) = RoleReaches axioms from (Direct p)
RoleMatches axioms from x y (asked.RoleFrom p a) = (a ≡ x) × RoleReaches axioms from (Direct p)
RoleMatches axioms from x y (asked.RoleTo p b) = (b ≡ y) × RoleReaches axioms from (Direct p)
RoleMatches axioms from x y (asked.RoleBoth p a b) = (a ≡ x) × (b ≡ y) × RoleReaches axioms from (Direct p)
RoleMatches axioms from x y (asked.RoleFromExcept p a b) = (a ≡ x) × (b ≢ y) × RoleReaches axioms from (Direct p)
RoleMatches axioms from x y (asked.RoleToExcept p b a) = (b ≡ y) × (a ≢ x) × RoleReaches axioms from (Direct p)
RoleMatches axioms from x y other = ⊥

-- who has the value in the attribute has it in one that is asked of the two
abbrev pub AttrMatches : List Axiom → Term → List ℕ → Value → Pattern → Type 0
AttrMatches axioms from x v (asked.Attr u) = AttrReaches axioms from u
AttrMatches axioms from x v (asked.AttrOf u a) = (a ≡ x) × AttrReaches axioms from u
AttrMatches axioms from x v (asked.AttrValue u w) = (w ≡ v) × AttrReaches axioms from u
AttrMatches axioms from x v (asked.AttrBoth u a w) = (a ≡ x) × (w ≡ v) × AttrReaches axioms from u
AttrMatches axioms from x v (asked.AttrOfExcept u a w) = (a ≡ x) × (w ≢ v) × AttrReaches axioms from u
AttrMatches axioms from x v other = ⊥

-- the classes, the roles and the attributes that the fact entails have one that is asked for
abbrev pub FactMatches : List Axiom → Fact → Pattern → Type 0
FactMatches axioms (fact.Class t a) p = ClassMatches axioms (basic.Class t) a p
FactMatches axioms (fact.Role q a b) p =
    (ClassMatches axioms (basic.Exists (Direct q)) a p ⊎ ClassMatches axioms (basic.Exists (Inverse q)) b p)
    ⊎ (RoleMatches axioms (Direct q) a b p ⊎ RoleMatches axioms (Inverse q) b a p)
FactMatches axioms (fact.Attr u a v) p = ClassMatches axioms (basic.Domain u) a p ⊎ AttrMatches axioms u a v p
