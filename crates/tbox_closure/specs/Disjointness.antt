-- The declared disjoint pairs of all axioms, and what is disjoint by them.
use Rattle.std.specs.Prelude.{◌↔◌, ◌⊎◌, ℕ, List, [], ◌∷◌, Contains}
use Rattle.std.specs.List.{flat_map}
use Rattle.dl_base.specs.declared.axioms.Axiom.{Axiom}
use Rattle.dl_base.specs.declared.axioms.Axiom.TheVariants.{ConceptApart, RoleApart, AttrApart}
use Rattle.dl_laws.specs.Edges.{concept_node, role_node}
use Rattle.dl_laws.specs.Paths.{Path}
use Rattle.tbox_closure.specs.declared.disjointness.Disjointness.{Disjointness}
use Rattle.tbox_closure.specs.declared.disjointness.Disjointness.TheVariants as disjoint
use Rattle.tbox_closure.specs.Marks.{IsMarked, row}

abbrev pub concept_pairs : Axiom → List (ℕ × ℕ)
concept_pairs (ConceptApart b c) = (concept_node b, concept_node c) ∷ []
concept_pairs other = []

abbrev pub role_pairs : Axiom → List (ℕ × ℕ)
role_pairs (RoleApart q r) = (role_node q, role_node r) ∷ []
role_pairs other = []

abbrev pub attr_pairs : Axiom → List (ℕ × ℕ)
attr_pairs (AttrApart u w) = (u.0, w.0) ∷ []
attr_pairs other = []

abbrev pub pairs_of : Disjointness → Axiom → List (ℕ × ℕ)
pairs_of disjoint.Concepts = concept_pairs
pairs_of disjoint.Roles = role_pairs
pairs_of disjoint.Attrs = attr_pairs

abbrev pub all_pairs : Disjointness → List Axiom → List (ℕ × ℕ)
all_pairs kind axioms = flat_map (pairs_of kind) axioms

-- the two are a pair, in one order or the other
abbrev pub IsPair : List (ℕ × ℕ) → ℕ → ℕ → Type 0
IsPair pairs d e = Contains pairs (d, e) ⊎ Contains pairs (e, d)

-- the marks are those of the pairs, in both orders
abbrev pub AreDeclared : List (ℕ × ℕ) → List (List ℕ) → Type 0
AreDeclared pairs rows = (d e : ℕ) → IsMarked (row rows d) e ↔ IsPair pairs d e

-- the two nodes reach the two of a pair
abbrev pub IsDisjoint : List (ℕ × ℕ) → List (ℕ × ℕ) → ℕ → ℕ → Type 0
IsDisjoint edges pairs i k = (d : ℕ) × (e : ℕ) × Path edges i d × Path edges k e × IsPair pairs d e

-- each row marks the nodes that are disjoint from its own
abbrev pub AreDisjointRows : List (ℕ × ℕ) → List (ℕ × ℕ) → List (List ℕ) → Type 0
AreDisjointRows edges pairs rows = (i k : ℕ) → IsMarked (row rows i) k ↔ IsDisjoint edges pairs i k
