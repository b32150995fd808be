-- What the reader is between two tokens, and at the end of all. No public contract names it.
use Rattle.std.specs.Prelude.{◌≡◌, ◌⊎◌, ℕ, List, [], ◌∷◌, ◌++◌, Bool, true, false, Option, Some, None, Result, Ok, Err}
use Rattle.dl_base.specs.Ontologies.{Theory}
use Rattle.dl_base.specs.declared.memory.OutOfMemory.{OutOfMemory}
use Rattle.dl_text.specs.Prefixes.{Bindings}
use Rattle.dl_text.specs.declared.kinds.ReadKind.{ReadKind}
use Rattle.dl_text.specs.declared.kinds.ReadKind.TheVariants as kinds
use Rattle.dl_text.specs.declared.refusals.ReadRefusal.{ReadRefusal}
use Rattle.dl_text.specs.declared.refusals.ReadRefusal.TheVariants as refusals
use Rattle.update_read.specs.declared.lists.Gathered.{Gathered}
use Rattle.update_read.specs.declared.progress.Progress.{Progress}
use Rattle.update_read.specs.declared.progress.Progress.TheVariants as progresses
use Rattle.update_read.specs.declared.reading.ReadUpdate.{ReadUpdate}
use Rattle.update_read.specs.declared.spots.Spot.{Spot}
use Rattle.update_read.specs.declared.spots.Spot.TheVariants as spots
use Rattle.update_read.specs.declared.spots.Step.{Step}
use Rattle.update_read.specs.declared.spots.Step.TheVariants as steps
use Rattle.update_read.specs.declared.tokens.Keyword.{Keyword}
use Rattle.update_read.specs.declared.tokens.Keyword.TheVariants as keywords
use Rattle.update_read.specs.declared.tokens.Mark.TheVariants as marks
use Rattle.update_read.specs.declared.tokens.Token.{Token}
use Rattle.update_read.specs.declared.tokens.Token.TheVariants as tokens
use Rattle.update_read.specs.Grammar.{Statement, IsUpdate}
use Rattle.update_read.specs.Meaning.{Means, IsRefusedBy}
use Rattle.update_read.specs.Running.{Run, applied, runs, start}
use Rattle.update_read.specs.Stopping.{StopsAtToken, Stops}
use Rattle.update_read.specs.Taking.{Gathers}
use Rattle.update_read.specs.Tokens.{Lexeme}

abbrev pub word_kind : Spot → Keyword → ReadKind
word_kind spots.Start word = kinds.OtherOperation
word_kind (spots.Group operation) keywords.Graph = kinds.OtherOperation
word_kind spot word = kinds.Syntax

abbrev pub kind_in : Spot → Token → ReadKind
kind_in spot tokens.Variable = kinds.Variable
kind_in spot tokens.Blank = kinds.BlankNode
kind_in spot (tokens.Sign marks.Open) = kinds.BlankNode
kind_in spot (tokens.Word word) = word_kind spot word
kind_in spot token = kinds.Syntax

abbrev pub refused_at : Spot → ℕ → ReadKind → ℕ × ReadKind
refused_at (spots.Word operation at) line kind = (at, kinds.OtherOperation)
refused_at spot line kind = (line, kind)

-- an update may end behind the spot
abbrev pub may_end : Spot → Bool
may_end spots.Start = true
may_end spots.Done = true
may_end spot = false

abbrev pub run_of : Spot → Bindings → List Statement → Run
run_of spot b out = record { bindings = b; spot = spot; out = out }

abbrev pub IsApplied : Theory → Bindings → Gathered → Step → Result (Option (Spot × Bindings × Gathered)) OutOfMemory → Type 0
IsApplied theory b gathered step (Ok None) = step ≡ steps.Stuck
IsApplied theory b gathered step (Ok (Some next)) =
    (out : List Statement) → Gathers theory out gathered → (more : List Statement) × (applied b out step ≡ Some (run_of next.0 next.1 more)) × Gathers theory more next.2
IsApplied theory b gathered step (Err e) = Unit {0}

-- the reader has gone through these tokens, and this is what their triples say
abbrev pub IsRead : Theory → Spot → Bindings → Gathered → List Lexeme → Type 0
IsRead theory spot b gathered all = (out : List Statement) × (runs (Some start) all ≡ Some (run_of spot b out)) × Gathers theory out gathered

-- the progress is that of these tokens
abbrev pub Fits : Theory → Progress → List Lexeme → Type 0
Fits theory (progresses.Going spot b gathered) all = IsRead theory spot b gathered all
Fits theory (progresses.Stopped line kind) all = StopsAtToken all line kind

abbrev pub IsTaken : Theory → Spot → Bindings → Gathered → Lexeme → Result Progress OutOfMemory → Type 0
IsTaken theory spot b gathered t (Ok next) = (all : List Lexeme) → IsRead theory spot b gathered all → Fits theory next (all ++ t ∷ [])
IsTaken theory spot b gathered t (Err e) = Unit {0}

abbrev pub IsAdvanced : Theory → Progress → List Lexeme → Result Progress OutOfMemory → Type 0
IsAdvanced theory progress out (Ok next) = (all : List Lexeme) → Fits theory progress all → Fits theory next (all ++ out)
IsAdvanced theory progress out (Err e) = Unit {0}

-- the fourth pass at the end of all triples
abbrev pub IsTold : Theory → List Statement → Result ReadUpdate ReadRefusal → Type 0
IsTold theory statements (Ok update) = Means theory statements update
IsTold theory statements (Err (refusals.Refused line kind)) = IsRefusedBy theory statements line kind
IsTold theory statements (Err refusals.OutOfMemory) = Unit {0}

-- the third and the fourth pass at the end of all tokens, on the line where the text ends
abbrev pub IsFinished : Theory → List Lexeme → ℕ → Result ReadUpdate ReadRefusal → Type 0
IsFinished theory all end (Ok update) = (statements : List Statement) × IsUpdate [] all statements × Means theory statements update
IsFinished theory all end (Err (refusals.Refused line kind)) = Stops all end line kind ⊎ ((statements : List Statement) × IsUpdate [] all statements × IsRefusedBy theory statements line kind)
IsFinished theory all end (Err refusals.OutOfMemory) = Unit {0}
