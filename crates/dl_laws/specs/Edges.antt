-- Axioms as edges between numbered nodes.
use Rattle.std.specs.Prelude.{ℕ, ◌+◌, ◌*◌, List, [], ◌∷◌}
use Rattle.dl_base.specs.declared.axioms.Axiom.{Axiom}
use Rattle.dl_base.specs.declared.axioms.Axiom.TheVariants.{ConceptIn, RoleIn, AttrIn, ConceptSome}
use Rattle.dl_base.specs.declared.terms.RoleSide.{RoleSide}
use Rattle.dl_base.specs.declared.terms.RoleSide.TheVariants.{Direct, Inverse}
use Rattle.dl_base.specs.declared.terms.Basic.{Basic}
use Rattle.dl_base.specs.declared.terms.Basic.TheVariants as basic
use Rattle.dl_base.specs.Derivation.{inverse}

-- four nodes a term
abbrev pub concept_node : Basic → ℕ
concept_node (basic.Class t) = 4 * t.0
concept_node (basic.Exists (Direct t)) = 4 * t.0 + 1
concept_node (basic.Exists (Inverse t)) = 4 * t.0 + 2
concept_node (basic.Domain t) = 4 * t.0 + 3

-- the same, with one node for both sides of a role
abbrev pub merged_node : Basic → ℕ
merged_node (basic.Class t) = 4 * t.0
merged_node (basic.Exists (Direct t)) = 4 * t.0 + 1
merged_node (basic.Exists (Inverse t)) = 4 * t.0 + 1
merged_node (basic.Domain t) = 4 * t.0 + 3

-- two nodes a role
abbrev pub role_node : RoleSide → ℕ
role_node (Direct t) = 2 * t.0
role_node (Inverse t) = 2 * t.0 + 1

abbrev pub concept_edges : Axiom → List (ℕ × ℕ)
concept_edges (ConceptIn b c) = (concept_node b, concept_node c) ∷ []
concept_edges (RoleIn q r) = (concept_node (basic.Exists q), concept_node (basic.Exists r)) ∷ (concept_node (basic.Exists (inverse q)), concept_node (basic.Exists (inverse r))) ∷ []
concept_edges (AttrIn u w) = (concept_node (basic.Domain u), concept_node (basic.Domain w)) ∷ []
concept_edges (ConceptSome b q c) = (concept_node b, concept_node (basic.Exists q)) ∷ []
concept_edges other = []

abbrev pub role_edges : Axiom → List (ℕ × ℕ)
role_edges (RoleIn q r) = (role_node q, role_node r) ∷ (role_node (inverse q), role_node (inverse r)) ∷ []
role_edges other = []

abbrev pub attr_edges : Axiom → List (ℕ × ℕ)
attr_edges (AttrIn u w) = (u.0, w.0) ∷ []
attr_edges other = []

abbrev pub need_edges : Axiom → List (ℕ × ℕ)
need_edges (ConceptIn b c) = (merged_node b, merged_node c) ∷ []
need_edges (RoleIn q r) = (merged_node (basic.Exists q), merged_node (basic.Exists r)) ∷ []
need_edges (AttrIn u w) = (merged_node (basic.Domain u), merged_node (basic.Domain w)) ∷ []
need_edges (ConceptSome b q c) = (merged_node b, merged_node (basic.Exists q)) ∷ (merged_node b, merged_node c) ∷ []
need_edges other = []
