-- The guards of a role fact, among the facts of one term.
use Rattle.std.specs.Prelude.{◌≡◌, ◌⊎◌, ℕ, List}
use Rattle.dl_base.specs.declared.axioms.Axiom.{Axiom}
use Rattle.dl_base.specs.declared.terms.Kind.TheVariants as kind
use Rattle.dl_base.specs.declared.terms.Term.{Term}
use Rattle.dl_base.specs.declared.terms.RoleSide.TheVariants.{Direct, Inverse}
use Rattle.dl_base.specs.declared.terms.Basic.TheVariants as basic
use Rattle.dl_base.specs.declared.patterns.Pattern.{Pattern}
use Rattle.dl_base.specs.declared.patterns.Pattern.TheVariants as asked
use Rattle.dl_base.specs.Ontologies.{Theory, IsTerm}
use Rattle.dl_laws.specs.Meeting.{AreDisjointConcepts, AreDisjointRoles, ShareFunctionalRole}

-- of a role
abbrev pub IsRoleGuardAt : List Axiom → Term → List ℕ → List ℕ → Term → Pattern → Type 0
IsRoleGuardAt axioms p a b t x =
    ((x ≡ asked.RoleFrom t a) × AreDisjointConcepts axioms (basic.Exists (Direct p)) (basic.Exists (Direct t)))
    ⊎ (((x ≡ asked.RoleTo t a) × AreDisjointConcepts axioms (basic.Exists (Direct p)) (basic.Exists (Inverse t)))
    ⊎ (((x ≡ asked.RoleFrom t b) × AreDisjointConcepts axioms (basic.Exists (Inverse p)) (basic.Exists (Direct t)))
    ⊎ (((x ≡ asked.RoleTo t b) × AreDisjointConcepts axioms (basic.Exists (Inverse p)) (basic.Exists (Inverse t)))
    ⊎ (((x ≡ asked.RoleBoth t a b) × (AreDisjointRoles axioms (Direct p) (Direct t) ⊎ AreDisjointRoles axioms (Inverse p) (Inverse t)))
    ⊎ (((x ≡ asked.RoleBoth t b a) × (AreDisjointRoles axioms (Direct p) (Inverse t) ⊎ AreDisjointRoles axioms (Inverse p) (Direct t)))
    ⊎ (((x ≡ asked.RoleFromExcept t a b) × ShareFunctionalRole axioms (Direct p) (Direct t))
    ⊎ (((x ≡ asked.RoleToExcept t b a) × ShareFunctionalRole axioms (Inverse p) (Inverse t)))))))))

-- of a class or an attribute
abbrev pub IsOtherGuardAt : List Axiom → Term → List ℕ → List ℕ → Term → Pattern → Type 0
IsOtherGuardAt axioms p a b t x =
    ((x ≡ asked.ClassOf t a) × AreDisjointConcepts axioms (basic.Exists (Direct p)) (basic.Class t))
    ⊎ (((x ≡ asked.AttrOf t a) × AreDisjointConcepts axioms (basic.Exists (Direct p)) (basic.Domain t))
    ⊎ (((x ≡ asked.ClassOf t b) × AreDisjointConcepts axioms (basic.Exists (Inverse p)) (basic.Class t))
    ⊎ (((x ≡ asked.AttrOf t b) × AreDisjointConcepts axioms (basic.Exists (Inverse p)) (basic.Domain t)))))

abbrev pub IsKindGuardAt : Theory → Term → List ℕ → List ℕ → Term → Pattern → Type 0
IsKindGuardAt theory p a b t x = (IsTerm theory t kind.Role × IsRoleGuardAt theory.axioms p a b t x) ⊎ ((¬ IsTerm theory t kind.Role) × IsOtherGuardAt theory.axioms p a b t x)
