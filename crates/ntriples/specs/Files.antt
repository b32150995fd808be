-- A fact file: its lines from the first, and the first that is refused.
use Rattle.std.specs.Prelude.{◌≡◌, ◌≢◌, ◌⊎◌, ◌+◌, ◌==◌, ℕ, List, [], ◌∷◌, ◌++◌, All, if◌then◌else◌, Option, Some, None, Result, Ok, Err, take, count_by}
use Rattle.std.specs.List.{flat_map}
use Rattle.std.specs.Str.{IsUtf8, IsValidUpTo}
use Rattle.dl_base.specs.declared.statements.Fact.{Fact}
use Rattle.dl_base.specs.Ontologies.{Theory}
use Rattle.dl_base.specs.Repeats.{IsOnce}
use Rattle.dl_text.specs.Going.{Goes}
use Rattle.dl_text.specs.declared.kinds.ReadKind.{ReadKind}
use Rattle.dl_text.specs.declared.kinds.ReadKind.TheVariants.{BadUtf8}
use Rattle.dl_text.specs.declared.refusals.ReadRefusal.{ReadRefusal}
use Rattle.dl_text.specs.declared.refusals.ReadRefusal.TheVariants as refusals
use Rattle.triples.specs.declared.meaning.Said.{Said}
use Rattle.triples.specs.declared.meaning.Said.TheVariants as saids
use Rattle.ntriples.specs.declared.faults.LineFault.TheVariants.{Refused}
use Rattle.ntriples.specs.declared.files.ReadFacts.{ReadFacts}
use Rattle.ntriples.specs.Meaning.{LineSays}

abbrev pub HasNoEnd : List ℕ → Type 0
HasNoEnd line = All (λ b. (b ≢ 10) × (b ≢ 13)) line

-- a place in the file: the number of its line, and what is left
pub record Place : Type 0 where
  pub line : ℕ
  pub rest : List ℕ

abbrev pub start : List ℕ → Place
start bytes = record { line = 1; rest = bytes }

-- the number of the line behind this end: only LF counts
abbrev pub number_after : ℕ → ℕ → ℕ
number_after line end = if end == 10 then line + 1 else line

-- At s stands a line that says it, with its end, LF or CR. Between the CR and the LF of one line's end stands an empty line, which says nothing.
pub record LineStep (theory : Theory) (s : Place) (it : Option Said) (m : Place) : Type 0 where
  pub front : List ℕ
  pub end : ℕ
  pub is : s.rest ≡ front ++ end ∷ m.rest
  pub no_end : HasNoEnd front
  pub is_end : (end ≡ 10) ⊎ (end ≡ 13)
  pub number : m.line ≡ number_after s.line end
  pub says : LineSays theory front (Ok it)

-- the line at a place, with an end or without
abbrev pub IsLineAt : List ℕ → List ℕ → Type 0
IsLineAt rest front =
    HasNoEnd front × ((rest ≡ front) ⊎ ((end : ℕ) × (after : List ℕ) × ((end ≡ 10) ⊎ (end ≡ 13)) × (rest ≡ front ++ end ∷ after)))

abbrev pub facts_of : Option Said → List Fact
facts_of None = []
facts_of (Some saids.Skipped) = []
facts_of (Some (saids.Fact fact)) = fact ∷ []

abbrev pub skips_of : Option Said → ℕ
skips_of None = 0
skips_of (Some saids.Skipped) = 1
skips_of (Some (saids.Fact fact)) = 0

abbrev pub all_skips : List (Option Said) → ℕ
all_skips [] = 0
all_skips (it ∷ its) = skips_of it + all_skips its

-- all lines say something or nothing, and these are their facts and the number of skipped ones
pub record SaysAll (theory : Theory) (bytes : List ℕ) (facts : List Fact) (skipped : ℕ) : Type 0 where
  pub before : List (Option Said)
  pub here : Place
  pub goes : Goes (LineStep theory) (start bytes) before here
  pub last : Option Said
  pub no_end : HasNoEnd here.rest
  pub says : LineSays theory here.rest (Ok last)
  pub facts_are : facts ≡ flat_map facts_of (before ++ last ∷ [])
  pub skipped_are : skipped ≡ all_skips (before ++ last ∷ [])

-- the lines before say something or nothing, and the next is refused
pub record RefusesAt (theory : Theory) (bytes : List ℕ) (line : ℕ) (kind : ReadKind) : Type 0 where
  pub before : List (Option Said)
  pub here : Place
  pub goes : Goes (LineStep theory) (start bytes) before here
  pub front : List ℕ
  pub is_line : IsLineAt here.rest front
  pub fails : LineSays theory front (Err (Refused kind))
  pub line_is : line ≡ here.line

-- the first byte that isn't UTF-8 is in this line
pub record IsNoText (bytes : List ℕ) (line : ℕ) (kind : ReadKind) : Type 0 where
  pub place : ℕ
  pub fault : IsValidUpTo bytes place
  pub line_is : line ≡ 1 + count_by (λ b. b == 10) (take place bytes)
  pub kind_is : kind ≡ BadUtf8

-- the facts that the lines say in their order, repeats dropped, and the number of skipped triples
abbrev pub SaysFacts : Theory → List ℕ → List Fact → ℕ → Type 0
SaysFacts theory bytes facts skipped = (all : List Fact) × SaysAll theory bytes all skipped × IsOnce all facts

-- The answer of the reader, by cases. The cases exclude each other, but for memory.
abbrev pub Reads : Theory → List ℕ → Result ReadFacts ReadRefusal → Type 0
Reads theory bytes (Ok found) = IsUtf8 bytes × SaysFacts theory bytes found.facts found.skipped
Reads theory bytes (Err (refusals.Refused line kind)) = IsNoText bytes line kind ⊎ (IsUtf8 bytes × RefusesAt theory bytes line kind)
Reads theory bytes (Err refusals.OutOfMemory) = Unit {0}

-- the same without the first pass
abbrev pub ReadsLines : Theory → List ℕ → Result ReadFacts ReadRefusal → Type 0
ReadsLines theory bytes (Ok found) = SaysFacts theory bytes found.facts found.skipped
ReadsLines theory bytes (Err (refusals.Refused line kind)) = RefusesAt theory bytes line kind
ReadsLines theory bytes (Err refusals.OutOfMemory) = Unit {0}
