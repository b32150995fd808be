-- The patterns of the facts that clash with a start row.
use Rattle.std.specs.Prelude.{◌≡◌, ◌⊎◌, List, Contains}
use Rattle.dl_base.specs.declared.axioms.Axiom.{Axiom}
use Rattle.dl_base.specs.declared.terms.Term.{Term}
use Rattle.dl_base.specs.declared.terms.RoleSide.{RoleSide}
use Rattle.dl_base.specs.declared.terms.RoleSide.TheVariants.{Direct, Inverse}
use Rattle.dl_base.specs.declared.terms.Basic.TheVariants as basic
use Rattle.dl_base.specs.declared.patterns.Pattern.{Pattern}
use Rattle.dl_base.specs.declared.patterns.Pattern.TheVariants as asked
use Rattle.dl_base.specs.declared.statements.Fact.{Fact}
use Rattle.dl_base.specs.Patterns.{Matches}
use Rattle.dl_laws.specs.Rows.{Start, OfRole, OfAttr, subject, concept, starts}
use Rattle.dl_laws.specs.Meeting.{AreDisjointConcepts, AreDisjointRoles, AreDisjointAttrs, ShareFunctionalRole, ShareFunctionalAttr}

-- the pattern is a guard of the start row
abbrev pub IsGuard : List Axiom → Start → Pattern → Type 0
IsGuard axioms s (asked.Class n) = ⊥
IsGuard axioms s (asked.ClassOf n a) = (a ≡ subject s) × AreDisjointConcepts axioms (concept s) (basic.Class n)
IsGuard axioms s (asked.Role n) = ⊥
IsGuard axioms s (asked.RoleFrom n a) = (a ≡ subject s) × AreDisjointConcepts axioms (concept s) (basic.Exists (Direct n))
IsGuard axioms s (asked.RoleTo n b) = (b ≡ subject s) × AreDisjointConcepts axioms (concept s) (basic.Exists (Inverse n))
IsGuard axioms s (asked.RoleBoth n x y) = (q : RoleSide) × (((s ≡ OfRole x y q) × AreDisjointRoles axioms q (Direct n)) ⊎ ((s ≡ OfRole y x q) × AreDisjointRoles axioms q (Inverse n)))
IsGuard axioms s (asked.RoleFromExcept n a b) = (q : RoleSide) × (s ≡ OfRole a b q) × ShareFunctionalRole axioms q (Direct n)
IsGuard axioms s (asked.RoleToExcept n a b) = (q : RoleSide) × (s ≡ OfRole a b q) × ShareFunctionalRole axioms q (Inverse n)
IsGuard axioms s (asked.Attr n) = ⊥
IsGuard axioms s (asked.AttrOf n a) = (a ≡ subject s) × AreDisjointConcepts axioms (concept s) (basic.Domain n)
IsGuard axioms s (asked.AttrValue n v) = ⊥
IsGuard axioms s (asked.AttrBoth n a v) = (u : Term) × (s ≡ OfAttr a v u) × AreDisjointAttrs axioms u n
IsGuard axioms s (asked.AttrOfExcept n a v) = (u : Term) × (s ≡ OfAttr a v u) × ShareFunctionalAttr axioms u n

-- the pattern is a guard of the fact
abbrev pub IsGuardOf : List Axiom → Fact → Pattern → Type 0
IsGuardOf axioms f p = (s : Start) × Contains (starts f) s × IsGuard axioms s p

-- a guard of the fact asks for the other
abbrev pub IsGuarded : List Axiom → Fact → Fact → Type 0
IsGuarded axioms f g = (p : Pattern) × IsGuardOf axioms f p × Matches p g
