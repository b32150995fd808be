-- What writes do.
use Rattle.std.specs.Prelude.{◌≡◌, ◌≤◌, ◌<◌, ℕ, List, ◌++◌, Option, Some, None, take, length}
use Rattle.dl_io.specs.declared.sinks.Put.{Put}
use Rattle.dl_io.specs.declared.sinks.Put.TheVariants.{Took, Failed}

-- what is told after these bytes were written, where anything is told
abbrev pub Appends : Option (List ℕ) → Option (List ℕ) → List ℕ → Type 0
Appends None new bytes = new ≡ None
Appends (Some old) new bytes = new ≡ Some (old ++ bytes)

-- a front of these bytes was written
abbrev pub AppendsFront : Option (List ℕ) → Option (List ℕ) → List ℕ → Type 0
AppendsFront old new bytes = (n : ℕ) × (n ≤ length bytes) × Appends old new (take n bytes)

-- what a write did: it took a front of the piece, not empty where the piece isn't, or failed and changed nothing
abbrev pub Writes : Put → List ℕ → Option (List ℕ) → Option (List ℕ) → Type 0
Writes (Took n) piece old new = (n ≤ length piece) × (0 < length piece → 0 < n) × Appends old new (take n piece)
Writes Failed piece old new = new ≡ old

-- a failed write is so only where P holds
abbrev pub FailsOnlyWhere : Put → Type 0 → Type 0
FailsOnlyWhere (Took n) P = Unit {0}
FailsOnlyWhere Failed P = P
