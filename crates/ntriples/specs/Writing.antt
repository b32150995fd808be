-- What is written to a sink.
use Rattle.std.specs.Prelude.{◌≡◌, ◌⊎◌, ◌≤◌, ℕ, List, Option, Result, Ok, Err}
use Rattle.dl_io.specs.Causes.{Rose}
use Rattle.dl_io.specs.Writing.{Appends, AppendsFront}
use Rattle.dl_io.specs.declared.sinks.WriteFault.{WriteFault}

-- These bytes were written; or a front of them, and the count of faults rose. It never falls.
abbrev pub IsPut : Option (List ℕ) → Option (List ℕ) → ℕ → ℕ → List ℕ → Result (Unit {0}) WriteFault → Type 0
IsPut old new before after bytes (Ok done) = Appends old new bytes × (before ≤ after)
IsPut old new before after bytes (Err fault) = AppendsFront old new bytes × (before ≤ after) × Rose before after

-- in the text of a literal an escape is written for the byte: a quote, a backslash, LF or CR
abbrev pub IsEscaped : ℕ → Type 0
IsEscaped b = (b ≡ 34) ⊎ ((b ≡ 92) ⊎ ((b ≡ 10) ⊎ (b ≡ 13)))
