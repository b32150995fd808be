-- How facts that contradict the axioms are named, and a request that contradicts itself.
use Rattle.std.specs.Prelude.{◌≡◌, ℕ, ◌<◌, List, Some, slice_get, ◌∷◌, []}
use Rattle.dl_base.specs.declared.axioms.Axiom.{Axiom}
use Rattle.dl_base.specs.declared.statements.Fact.{Fact}
use Rattle.dl_base.specs.Derivation.{InClosure}
use Rattle.dl_base.specs.IllFormed.{NamesAlone, NamesPair, NamesEntails, ClashesAt, ClashAt, EntailsAt}
use Rattle.update_engine.specs.declared.clashes.Clash.{Clash}
use Rattle.update_engine.specs.declared.clashes.Clash.TheVariants as clash
use Rattle.update_engine.specs.declared.judging.IllFormed.{IllFormed}
use Rattle.update_engine.specs.declared.judging.IllFormed.TheVariants as ill

-- the first fact that clashes by itself, or else the first two that clash
abbrev pub IsClash : List Axiom → List Fact → Clash → Type 0
IsClash axioms facts (clash.Alone i) = NamesAlone axioms facts i
IsClash axioms facts (clash.Pair i j) = NamesPair axioms facts i j

-- the first insertion that clashes by itself, or else the first two that clash, or else the first that entails a deletion, with the first such deletion
abbrev pub IsNamed : List Axiom → List Fact → List Fact → IllFormed → Type 0
IsNamed axioms inserts deletes (ill.Alone i) = NamesAlone axioms inserts i
IsNamed axioms inserts deletes (ill.Pair i j) = NamesPair axioms inserts i j
IsNamed axioms inserts deletes (ill.Entails i d) = NamesEntails axioms inserts deletes i d

-- no fact clashes by itself
abbrev pub NoneAlone : List Axiom → List Fact → Type 0
NoneAlone axioms inserts = (k : ℕ) → ¬ ClashesAt axioms inserts k

-- no two facts clash
abbrev pub NoPair : List Axiom → List Fact → Type 0
NoPair axioms inserts = (k l : ℕ) → ¬ ClashAt axioms inserts k l

-- no insertion entails a deletion
abbrev pub NoEntails : List Axiom → List Fact → List Fact → Type 0
NoEntails axioms inserts deletes = (k l : ℕ) → ¬ EntailsAt axioms inserts deletes k l

-- j is the first place that clashes with the place i
pub record IsPartner (axioms : List Axiom) (inserts : List Fact) (i j : ℕ) : Type 0 where
  pub here : ClashAt axioms inserts i j
  pub least : (l : ℕ) → l < j → ¬ ClashAt axioms inserts i l

-- the deletion at d is the first that the fact entails
pub record IsEntailed (axioms : List Axiom) (deletes : List Fact) (f : Fact) (d : ℕ) : Type 0 where
  pub here : (g : Fact) × (slice_get deletes d ≡ Some g) × InClosure axioms (f ∷ []) g
  pub least : (l : ℕ) → l < d → ¬ ((g : Fact) × (slice_get deletes l ≡ Some g) × InClosure axioms (f ∷ []) g)
