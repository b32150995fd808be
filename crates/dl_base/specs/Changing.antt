-- How a list of facts is changed.
use Rattle.std.specs.Prelude.{◌≡◌, ◌↔◌, ◌⊎◌, ◌<◌, true, false, List, [], ◌∷◌, ◌++◌, Contains, length}
use Rattle.dl_base.specs.declared.statements.Fact.{Fact}
use Rattle.dl_base.specs.declared.requests.Changed.{Changed}

-- the fact, marked as added
abbrev pub added : Fact → Changed
added f = record { fact = f; added = true }

-- the fact, marked as removed
abbrev pub removed : Fact → Changed
removed f = record { fact = f; added = false }

-- each added fact isn't held, and each removed one is
pub record Fits (held : List Fact) (changed : List Changed) : Type 0 where
  pub come : (f : Fact) → Contains changed (added f) → ¬ Contains held f
  pub go : (f : Fact) → Contains changed (removed f) → Contains held f

-- new has the facts of old that aren't removed, and the added ones
abbrev pub IsChanged : List Fact → List Changed → List Fact → Type 0
IsChanged old changed new = (f : Fact) → Contains new f ↔ ((Contains old f × ¬ Contains changed (removed f)) ⊎ Contains changed (added f))

-- the facts are the added ones
abbrev pub Brings : List Changed → List Fact → Type 0
Brings changed facts = (f : Fact) → Contains facts f ↔ Contains changed (added f)

-- the layers before and then the new list, some of the first dropped, but not all
abbrev pub IsTrimmed : List (List Fact) → List Fact → List (List Fact) → Type 0
IsTrimmed before new after = (dropped : List (List Fact)) × (before ++ new ∷ [] ≡ dropped ++ after) × (0 < length after)
