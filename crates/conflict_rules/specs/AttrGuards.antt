-- The guards of an attribute fact, among the facts of one term.
use Rattle.std.specs.Prelude.{◌≡◌, ◌⊎◌, ℕ, List}
use Rattle.dl_base.specs.declared.axioms.Axiom.{Axiom}
use Rattle.dl_base.specs.declared.names.Value.{Value}
use Rattle.dl_base.specs.declared.terms.Term.{Term}
use Rattle.dl_base.specs.declared.terms.RoleSide.TheVariants.{Direct, Inverse}
use Rattle.dl_base.specs.declared.terms.Basic.TheVariants as basic
use Rattle.dl_base.specs.declared.patterns.Pattern.{Pattern}
use Rattle.dl_base.specs.declared.patterns.Pattern.TheVariants as asked
use Rattle.dl_laws.specs.Meeting.{AreDisjointConcepts, AreDisjointAttrs, ShareFunctionalAttr}

abbrev pub IsAttrGuardAt : List Axiom → Term → List ℕ → Value → Term → Pattern → Type 0
IsAttrGuardAt axioms u a v t x =
    ((x ≡ asked.ClassOf t a) × AreDisjointConcepts axioms (basic.Domain u) (basic.Class t))
    ⊎ (((x ≡ asked.RoleFrom t a) × AreDisjointConcepts axioms (basic.Domain u) (basic.Exists (Direct t)))
    ⊎ (((x ≡ asked.RoleTo t a) × AreDisjointConcepts axioms (basic.Domain u) (basic.Exists (Inverse t)))
    ⊎ (((x ≡ asked.AttrOf t a) × AreDisjointConcepts axioms (basic.Domain u) (basic.Domain t))
    ⊎ (((x ≡ asked.AttrBoth t a v) × AreDisjointAttrs axioms u t)
    ⊎ (((x ≡ asked.AttrOfExcept t a v) × ShareFunctionalAttr axioms u t))))))
