-- What reading a file tells.
use Rattle.std.specs.Prelude.{◌≡◌, ◌≤◌, ◌<◌, ℕ, List, Option, Some, None, Result, Ok, Err, Vec, length}
use Rattle.dl_io.specs.declared.files.FilesRefusal.{FilesRefusal}
use Rattle.dl_io.specs.declared.files.FilesRefusal.TheVariants as refusal

-- what a read of the file of this name gives, where the contents are told: they, where they are within the limit; no such file; too long; a fault and want of memory say nothing
abbrev pub IsRead : (List ℕ → Option (List ℕ)) → List ℕ → ℕ → Result (List ℕ) FilesRefusal → Type 0
IsRead contents name limit (Ok bytes) = (contents name ≡ Some bytes) × (length bytes ≤ limit)
IsRead contents name limit (Err refusal.Missing) = contents name ≡ None
IsRead contents name limit (Err refusal.TooLong) = (bytes : List ℕ) × (contents name ≡ Some bytes) × (limit < length bytes)
IsRead contents name limit (Err refusal.Failed) = Unit {0}
IsRead contents name limit (Err refusal.OutOfMemory) = Unit {0}

-- the same, where anything is told
abbrev pub Gives : Option (List ℕ → Option (List ℕ)) → List ℕ → ℕ → Result (List ℕ) FilesRefusal → Type 0
Gives None name limit result = Unit {0}
Gives (Some contents) name limit result = IsRead contents name limit result

-- the bytes of the answer
abbrev pub bytes_of : {A E : Type 0} → Result (Vec ℕ A) E → Result (List ℕ) E
bytes_of (Ok bytes) = Ok bytes.items
bytes_of (Err e) = Err e

-- a failed read is so only where P holds
abbrev pub FailsOnlyWhere : Result (List ℕ) FilesRefusal → Type 0 → Type 0
FailsOnlyWhere (Err refusal.Failed) P = P
FailsOnlyWhere other P = Unit {0}
