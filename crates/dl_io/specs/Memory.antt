-- What the forms in memory tell.
use Rattle.std.specs.Prelude.{ℕ, List, [], ◌∷◌, Option, Some, None, Vec, String, string_bytes, nat_eq, if◌then◌else◌}
use Rattle.std.specs.Cmp.Lexicographic.{pointwise}

-- files in memory: names with contents, of two with one name the first counts; the reads that are to fail, counted from 0; how many reads and faults there were
pub record FilesState : Type 0 where
  pub files : List (List ℕ × List ℕ)
  pub failing : List ℕ
  pub calls : ℕ
  pub faults : ℕ

-- a name and a content, by their bytes
abbrev pub seen : {A B : Type 0} → String A × Vec ℕ B → List ℕ × List ℕ
seen file = (string_bytes file.0, file.1.items)

-- the content of the first file of this name
abbrev pub content_of : List (List ℕ × List ℕ) → List ℕ → Option (List ℕ)
content_of [] name = None
content_of (file ∷ files) name = if pointwise nat_eq file.0 name then Some file.1 else content_of files name

-- a sink in memory: what was written, how much it takes in all, the writes that are to fail, counted from 0; how many writes and faults there were
pub record SinkState : Type 0 where
  pub written : List ℕ
  pub capacity : ℕ
  pub failing : List ℕ
  pub calls : ℕ
  pub faults : ℕ
