-- What the tables of an ontology tell.
use Rattle.std.specs.Prelude.{◌≡◌, ◌≢◌, ◌↔◌, ◌⊎◌, ℕ, List, Contains}
use Rattle.dl_base.specs.declared.axioms.Axiom.{Axiom}
use Rattle.dl_base.specs.declared.axioms.Axiom.TheVariants.{Range, ConceptSome}
use Rattle.dl_base.specs.declared.terms.Term.{Term}
use Rattle.dl_base.specs.declared.terms.RoleSide.{RoleSide}
use Rattle.dl_base.specs.declared.terms.RoleSide.TheVariants.{Direct, Inverse}
use Rattle.dl_base.specs.declared.terms.Basic.{Basic}
use Rattle.dl_base.specs.declared.terms.Basic.TheVariants as basic
use Rattle.dl_base.specs.Clash.{AttrReaches}
use Rattle.dl_base.specs.Derivation.{inverse}
use Rattle.dl_base.specs.Ontologies.{Theory}
use Rattle.dl_laws.specs.Edges.{merged_node}
use Rattle.dl_laws.specs.Emptiness.{IsUnsatisfiable}
use Rattle.dl_laws.specs.Meeting.{AreDisjointConcepts, AreDisjointRoles, AreDisjointAttrs}
use Rattle.tbox_closure.specs.declared.disjointness.Disjointness.TheVariants as disjoint
use Rattle.tbox_closure.specs.declared.edges.Part.TheVariants as part
use Rattle.tbox_closure.specs.Disjointness.{all_pairs, AreDisjointRows}
use Rattle.tbox_closure.specs.Edges.{all_edges}
use Rattle.tbox_closure.specs.Graphs.{HaveSamePaths}
use Rattle.tbox_closure.specs.Marks.{IsMarked, row}

-- the pairs are the declared ranges of attributes
abbrev pub AreRanges : List Axiom → List (Term × List ℕ) → Type 0
AreRanges axioms ranges = (v : Term) (d : List ℕ) → Contains ranges (v, d) ↔ Contains axioms (Range v d)

-- the datatype is a range of something above the attribute
abbrev pub IsRangeIn : List Axiom → List (Term × List ℕ) → Term → List ℕ → Type 0
IsRangeIn axioms ranges u d = (v : Term) × Contains ranges (v, d) × AttrReaches axioms u v

pub record IsExact (theory : Theory) (c r a : List (ℕ × ℕ)) (cs rs us : List (List ℕ)) (ds : List (Term × List ℕ)) : Type 0 where
  pub concepts : HaveSamePaths c (all_edges part.ConceptEdges theory.axioms)
  pub roles : HaveSamePaths r (all_edges part.RoleEdges theory.axioms)
  pub attrs : HaveSamePaths a (all_edges part.AttrEdges theory.axioms)
  pub disjoint_concepts : AreDisjointRows (all_edges part.ConceptEdges theory.axioms) (all_pairs disjoint.Concepts theory.axioms) cs
  pub disjoint_roles : AreDisjointRows (all_edges part.RoleEdges theory.axioms) (all_pairs disjoint.Roles theory.axioms) rs
  pub disjoint_attrs : AreDisjointRows (all_edges part.AttrEdges theory.axioms) (all_pairs disjoint.Attrs theory.axioms) us
  pub ranges : AreRanges theory.axioms ds

-- the datatype is a declared range of something above the attribute
abbrev pub IsRange : List Axiom → Term → List ℕ → Type 0
IsRange axioms u d = (v : Term) × Contains axioms (Range v d) × AttrReaches axioms u v

-- two datatypes are ranges of what is above the attribute
abbrev pub HaveTwoRanges : List Axiom → Term → Type 0
HaveTwoRanges axioms u = (d : List ℕ) × (e : List ℕ) × IsRange axioms u d × IsRange axioms u e × (d ≢ e)

-- its witness has two disjoint roles, or its value two disjoint attributes or two ranges
abbrev pub IsContradictoryByKind : List Axiom → Basic → Type 0
IsContradictoryByKind axioms (basic.Class c) = ⊥
IsContradictoryByKind axioms (basic.Exists q) = AreDisjointRoles axioms q q
IsContradictoryByKind axioms (basic.Domain u) = AreDisjointAttrs axioms u u ⊎ HaveTwoRanges axioms u

-- who is in the concept contradicts the axioms, without a partner
abbrev pub IsContradictoryItself : List Axiom → Basic → Type 0
IsContradictoryItself axioms b = AreDisjointConcepts axioms b b ⊎ IsContradictoryByKind axioms b

-- of the two concepts, two are disjoint, or one is disjoint from itself
abbrev pub AreDisjointAmong : List Axiom → Basic → Basic → Type 0
AreDisjointAmong axioms b c = AreDisjointConcepts axioms b b ⊎ (AreDisjointConcepts axioms b c ⊎ AreDisjointConcepts axioms c c)

-- the witness of the role and the concept is in two disjoint concepts
abbrev pub IsContradictoryPartner : List Axiom → RoleSide → Basic → Type 0
IsContradictoryPartner axioms q c = AreDisjointAmong axioms (basic.Exists (inverse q)) c

-- the term of a role, from either side
abbrev pub role_term : RoleSide → ℕ
role_term (Direct t) = t.0
role_term (Inverse t) = t.0

-- the term of a concept
abbrev pub term_number : Basic → ℕ
term_number (basic.Class t) = t.0
term_number (basic.Exists (Direct t)) = t.0
term_number (basic.Exists (Inverse t)) = t.0
term_number (basic.Domain t) = t.0

-- k is the node of the concept, and it is such a one
abbrev pub IsItselfAt : List Axiom → Basic → ℕ → Type 0
IsItselfAt axioms c k = (k ≡ merged_node c) × IsContradictoryItself axioms c

-- k is the node of such a concept of the term
abbrev pub IsItselfOf : List Axiom → ℕ → ℕ → Type 0
IsItselfOf axioms n k = (c : Basic) × (term_number c ≡ n) × IsItselfAt axioms c k

abbrev pub IsItselfNode : List Axiom → ℕ → Type 0
IsItselfNode axioms k = (c : Basic) × IsItselfAt axioms c k

-- the axiom gives those in the concept of node k a partner that contradicts the axioms
abbrev pub IsPartnerNode : List Axiom → Axiom → ℕ → Type 0
IsPartnerNode axioms it k = (b : Basic) × (q : RoleSide) × (c : Basic) × (it ≡ ConceptSome b q c) × IsContradictoryPartner axioms q c × (k ≡ merged_node b)

-- an axiom does
abbrev pub HasPartnerNode : List Axiom → List Axiom → ℕ → Type 0
HasPartnerNode axioms some k = (it : Axiom) × Contains some it × IsPartnerNode axioms it k

-- the row of node k marks its first place
abbrev pub IsNoted : List (List ℕ) → ℕ → Type 0
IsNoted rows k = IsMarked (row rows k) 0

-- the new rows note also the nodes of Q
abbrev pub Notes : (ℕ → Type 0) → List (List ℕ) → List (List ℕ) → Type 0
Notes Q old new = (k : ℕ) → IsNoted new k ↔ (IsNoted old k ⊎ Q k)

-- the rows mark in their first place the nodes of the concepts that nothing can be in
abbrev pub AreEmptyRows : List Axiom → List (List ℕ) → Type 0
AreEmptyRows axioms rows = (b : Basic) → IsNoted rows (merged_node b) ↔ IsUnsatisfiable axioms b
