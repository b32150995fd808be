-- What a commit comes to.
use Rattle.std.specs.Prelude.{◌≡◌, ℕ, ◌<◌, length}
use Rattle.std.specs.Arc.{arc_value}
use Rattle.dl_base.specs.Commits as outcome
use Rattle.dl_base.specs.Staleness.{IsEntry}
use Rattle.read_patterns.specs.declared.parts.Parts.{Parts}
use Rattle.serial_history.specs.Committing.{HasOutcome, Commits}
use Rattle.serial_history.specs.States.{Seen}
use Rattle.optimistic_commit.specs.declared.publishing.Published.{Published}
use Rattle.optimistic_commit.specs.declared.publishing.Published.TheVariants as published

-- the commit of the parts by this editor is answered so, and takes the state s to the state t
abbrev pub Publishes : Seen → ℕ → Parts → Published → Seen → Type 0
Publishes s editor parts (published.Committed n) t = Commits s editor parts n t
Publishes s editor parts (published.Conflict met entry) t =
    HasOutcome s editor parts (outcome.Conflict met.entry met.place met.request) t × IsEntry s.entries met.entry (arc_value entry) × (t ≡ s)
Publishes s editor parts (published.Full given) t = HasOutcome s editor parts outcome.HistoryFull t × (given ≡ parts) × (t ≡ s)
Publishes s editor parts (published.OutOfMemory given) t = (length s.entries < s.limit) × (given ≡ parts) × (t ≡ s)
