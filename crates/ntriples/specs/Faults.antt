-- The refusals of a line.
use Rattle.std.specs.Prelude.{ℕ, Option, Some, None}
use Rattle.dl_text.specs.declared.faults.TextFault.{TextFault}
use Rattle.dl_text.specs.declared.kinds.ReadKind.{ReadKind}
use Rattle.dl_text.specs.declared.refusals.ReadRefusal.{ReadRefusal}
use Rattle.dl_text.specs.declared.refusals.ReadRefusal.TheVariants as refusals
use Rattle.dl_text.specs.Kinds.{kind_of}
use Rattle.ntriples.specs.declared.faults.LineFault.{LineFault}
use Rattle.ntriples.specs.declared.faults.LineFault.TheVariants.{Refused, OutOfMemory}

-- the refusal of this kind, or want of memory
abbrev pub fault_at : Option ReadKind → LineFault
fault_at (Some kind) = Refused kind
fault_at None = OutOfMemory

-- the fault of a line in which a text has this fault
abbrev pub fault_of : TextFault → LineFault
fault_of fault = fault_at (kind_of fault)

-- the refusal of a file at this line
abbrev pub refused : ℕ → LineFault → ReadRefusal
refused line (Refused kind) = refusals.Refused line kind
refused line OutOfMemory = refusals.OutOfMemory
