-- The axioms of the base crate that each axiom of a document gives, by what stands at its places.
use Rattle.std.specs.Prelude.{ℕ, List, [], ◌∷◌, ◌++◌, Bool, false, ◌==◌, if◌then◌else◌}
use Rattle.std.specs.List.{flat_map}
use Rattle.dl_base.specs.declared.axioms.Axiom.{Axiom}
use Rattle.dl_base.specs.declared.axioms.Axiom.TheVariants.{ConceptIn, ConceptApart, RoleIn, RoleApart, AttrIn, AttrApart, Range, ConceptSome}
use Rattle.dl_base.specs.declared.terms.Basic.{Basic}
use Rattle.dl_base.specs.declared.terms.RoleSide.{RoleSide}
use Rattle.dl_base.specs.declared.terms.RoleSide.TheVariants.{Direct, Inverse}
use Rattle.dl_base.specs.declared.terms.Term.{Term}
use Rattle.owl_read.specs.declared.builtins.Builtin.TheVariants as builtins
use Rattle.owl_read.specs.declared.sides.Side.{Side}
use Rattle.owl_read.specs.declared.sides.Side.TheVariants.{Nothing, Concept, Role, Attr}
use Rattle.owl_read.specs.declared.sides.Part.{Part}
use Rattle.owl_read.specs.declared.sides.Part.TheVariants.{Within, Related, Outside, Empty}
use Rattle.owl_read.specs.declared.sides.Pass.{Pass}
use Rattle.owl_read.specs.declared.sides.Pass.TheVariants as passes
use Rattle.owl_read.specs.Builtins.{is_builtin}

abbrev pub same_term : Term → Term → Bool
same_term p q = p.0 == q.0

abbrev pub same_role : RoleSide → RoleSide → Bool
same_role (Direct p) (Direct q) = same_term p q
same_role (Inverse p) (Inverse q) = same_term p q
same_role one other = false

-- one side is included in the other; a role or attribute in itself gives nothing, and neither does owl:Nothing on the left
abbrev pub included : Side → Side → List Axiom
included (Concept b) (Concept c) = ConceptIn b c ∷ []
included (Concept b) Nothing = ConceptApart b b ∷ []
included (Role q) (Role r) = if same_role q r then [] else RoleIn q r ∷ []
included (Attr u) (Attr w) = if same_term u w then [] else AttrIn u w ∷ []
included one other = []

-- two sides are disjoint; with owl:Nothing that gives nothing
abbrev pub apart : Side → Side → List Axiom
apart (Concept b) (Concept c) = ConceptApart b c ∷ []
apart (Role q) (Role r) = RoleApart q r ∷ []
apart (Attr u) (Attr w) = AttrApart u w ∷ []
apart one other = []

-- from this side each is included in the next, and the last in the first
abbrev pub ring_from : Side → Side → List Side → List Axiom
ring_from first one [] = included one first
ring_from first one (two ∷ rest) = included one two ++ ring_from first two rest

-- each is included in the next, and the last in the first
abbrev pub ring : List Side → List Axiom
ring [] = []
ring (first ∷ rest) = ring_from first first rest

-- each two are disjoint, by the place of the one and then of the other
abbrev pub all_apart : List Side → List Axiom
all_apart [] = []
all_apart (one ∷ rest) = flat_map (apart one) rest ++ all_apart rest

-- what a part gives in a pass over the parts
abbrev pub given : Pass → Basic → Part → List Axiom
given passes.Within b (Within c) = ConceptIn b c ∷ []
given passes.Related b (Related q c) = ConceptSome b q c ∷ []
given passes.Outside b (Outside c) = ConceptApart b c ∷ []
given passes.Empty b Empty = ConceptApart b b ∷ []
given pass b part = []

-- the concept is within a right side of these parts: first its basic ones, then 'some role in a concept', then complements, then owl:Nothing
abbrev pub limited : Basic → List Part → List Axiom
limited b parts =
    flat_map (given passes.Within b) parts ++ flat_map (given passes.Related b) parts ++ flat_map (given passes.Outside b) parts ++ flat_map (given passes.Empty b) parts

-- a left side is within a right side of these parts; owl:Nothing is within all
abbrev pub subclass : Side → List Part → List Axiom
subclass (Concept b) parts = limited b parts
subclass other parts = []

-- the attribute's values are of the datatype; all are of rdfs:Literal
abbrev pub ranged : Term → List ℕ → List Axiom
ranged u datatype = if is_builtin builtins.Literal datatype then [] else Range u datatype ∷ []
