-- What the program prints.
use Rattle.std.specs.Prelude.{ℕ, List, [], ◌∷◌, ◌++◌, codes, length, Option, Some, None, slice_get}
use Rattle.std.specs.Fmt.{decimal}
use Rattle.dl_base.specs.declared.statements.Fact.{Fact}
use Rattle.dl_base.specs.Ontologies.{Theory}
use Rattle.dl_text.specs.Kinds.{number_of, name_of}
use Rattle.dl_text.specs.declared.kinds.ReadKind.{ReadKind}
use Rattle.loading.specs.declared.refusals.LoadRefusal.{LoadRefusal}
use Rattle.loading.specs.declared.refusals.LoadRefusal.TheVariants as refusal
use Rattle.ntriples.specs.Printing.{line, lines}
use Rattle.update_engine.specs.declared.judging.IllFormed.{IllFormed}
use Rattle.update_engine.specs.declared.judging.IllFormed.TheVariants as ill

-- a word, a number and LF
abbrev pub counted : List ℕ → ℕ → List ℕ
counted word n = word ++ (decimal n ++ 10 ∷ [])

-- how many facts there are, and their lines
abbrev pub listed : List ℕ → Theory → List Fact → List ℕ
listed word theory facts = counted word (length facts) ++ lines theory facts

-- what a consistent base prints: how many terms and facts it has, and how many triples were skipped
abbrev pub checked : ℕ → ℕ → ℕ → List ℕ
checked terms facts skipped = codes "consistent" ++ (10 ∷ (counted (codes "terms ") terms ++ (counted (codes "facts ") facts ++ counted (codes "skipped ") skipped)))

-- what one update prints, behind its head: how many triples were skipped, and what was lost
abbrev pub updated : List ℕ → Theory → ℕ → List Fact → List ℕ
updated head theory skipped lost = head ++ (counted (codes "skipped ") skipped ++ listed (codes "lost ") theory lost)

-- what is printed at the end
abbrev pub stored : Theory → List Fact → List ℕ
stored theory facts = listed (codes "stored ") theory facts

-- an error line about a file
abbrev pub about : List ℕ → List ℕ → List ℕ
about name words = codes "error " ++ (name ++ (words ++ 10 ∷ []))

abbrev pub missing : List ℕ → List ℕ
missing name = about name (codes " 31 Missing")

abbrev pub too_long : List ℕ → List ℕ
too_long name = about name (codes " 30 TooLong")

abbrev pub failed : List ℕ → List ℕ
failed name = about name (codes " 32 Failed")

-- the file is refused by its reader, at this line
abbrev pub refused : List ℕ → ℕ → ReadKind → List ℕ
refused name at kind = codes "error " ++ (name ++ (32 ∷ (decimal (number_of kind) ++ (32 ∷ (name_of kind ++ counted (codes " line ") at)))))

-- an error line without a file
abbrev pub error : List ℕ → List ℕ
error words = codes "error " ++ (words ++ 10 ∷ [])

-- the line of the fact at a place, nothing where there is none
abbrev pub line_of : Theory → Option Fact → List ℕ
line_of theory None = []
line_of theory (Some f) = line theory f

abbrev pub line_at : Theory → List Fact → ℕ → List ℕ
line_at theory facts i = line_of theory (slice_get facts i)

-- what is printed of opening facts that contradict the axioms: the fact, or the two
abbrev pub contradiction : Theory → LoadRefusal → List ℕ
contradiction theory (refusal.Alone f) = error (codes "inconsistent alone") ++ line theory f
contradiction theory (refusal.Pair f g) = error (codes "inconsistent pair") ++ (line theory f ++ line theory g)
contradiction theory other = []

-- how the line of an ill-formed update begins: its number, from 0
abbrev pub of_update : ℕ → List ℕ → List ℕ
of_update n word = codes "error update " ++ (decimal n ++ word)

-- what is printed of an update that contradicts itself: its name by places, and the facts at them
abbrev pub ill_formed : Theory → ℕ → List Fact → List Fact → IllFormed → List ℕ
ill_formed theory n inserts deletes (ill.Alone i) = counted (of_update n (codes " alone ")) i ++ line_at theory inserts i
ill_formed theory n inserts deletes (ill.Pair i j) = counted (of_update n (codes " pair ") ++ (decimal i ++ 32 ∷ [])) j ++ (line_at theory inserts i ++ line_at theory inserts j)
ill_formed theory n inserts deletes (ill.Entails i d) = counted (of_update n (codes " entails ") ++ (decimal i ++ 32 ∷ [])) d ++ (line_at theory inserts i ++ line_at theory deletes d)
