-- What a commit does to a history.
use Rattle.std.specs.Prelude.{◌≡◌, ℕ, List}
use Rattle.dl_base.specs.Changing.{IsTrimmed}
use Rattle.dl_base.specs.Commits.{Outcome, IsOutcome}
use Rattle.dl_base.specs.Commits as outcome
use Rattle.dl_base.specs.Histories.{IsVersion}
use Rattle.dl_base.specs.declared.statements.Fact.{Fact}
use Rattle.read_patterns.specs.declared.parts.Parts.{Parts}
use Rattle.serial_history.specs.States.{Seen}

-- the outcome of a commit of the parts by this editor, and the entries afterwards
abbrev pub HasOutcome : Seen → ℕ → Parts → Outcome → Seen → Type 0
HasOutcome s editor parts o t = IsOutcome s.opening s.facts s.limit s.entries editor parts.base parts.recorded o t.entries

-- the same opening and limit; the version that stands afterwards is the last layer
abbrev pub Continues : Seen → Seen → Type 0
Continues s t = (version : List Fact) × IsVersion t.facts t.entries version × IsTrimmed s.layers version t.layers
    × (t ≡ record { opening = s.opening; facts = s.facts; limit = s.limit; entries = t.entries; layers = t.layers })

-- the parts are committed by this editor as the entry of this number, which takes the history s to the history t
abbrev pub Commits : Seen → ℕ → Parts → ℕ → Seen → Type 0
Commits s editor parts number t = HasOutcome s editor parts (outcome.Committed number) t × Continues s t
