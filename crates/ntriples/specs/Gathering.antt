-- Facts that are gathered, each once.
use Rattle.std.specs.Prelude.{◌≡◌, ◌⊎◌, List, [], ◌∷◌, ◌++◌, Contains, Option, Some, None}
use Rattle.dl_base.specs.declared.statements.Fact.{Fact}
use Rattle.triples.specs.declared.meaning.Said.{Said}
use Rattle.triples.specs.declared.meaning.Said.TheVariants as saids

-- the fact was among them, or comes last
abbrev pub IsJoined : List Fact → Fact → List Fact → Type 0
IsJoined facts fact then = (Contains facts fact × (then ≡ facts)) ⊎ ((¬ Contains facts fact) × (then ≡ facts ++ fact ∷ []))

-- so of the fact that a line says, if it says one
abbrev pub IsKept : List Fact → Option Said → List Fact → Type 0
IsKept facts None then = then ≡ facts
IsKept facts (Some saids.Skipped) then = then ≡ facts
IsKept facts (Some (saids.Fact fact)) then = IsJoined facts fact then
