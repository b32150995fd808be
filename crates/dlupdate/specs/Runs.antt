-- What a run comes to, as a function of its words and the contents of its files.
use Rattle.std.specs.Prelude.{◌≡◌, ℕ, ◌<◌, ◌≤◌, ◌+◌, List, [], ◌∷◌, ◌++◌, Option, Some, None, IfSome, Result, Ok, Err, Contains, codes, length}
use Rattle.dl_base.specs.declared.statements.Fact.{Fact}
use Rattle.dl_base.specs.Clash.{IsConsistent}
use Rattle.dl_base.specs.Ontologies.{Theory}
use Rattle.dl_base.specs.Updates.{Lists, IsStored, IsLost, IsWellFormed, Updates}
use Rattle.dl_text.specs.declared.kinds.ReadKind.{ReadKind}
use Rattle.dl_text.specs.declared.refusals.ReadRefusal.{ReadRefusal}
use Rattle.dl_text.specs.declared.refusals.ReadRefusal.TheVariants.{Refused, OutOfMemory as NoMemory}
use Rattle.loading.specs.declared.refusals.LoadRefusal.TheVariants as refusal
use Rattle.loading.specs.Loading.{Gathers, Contradicts}
use Rattle.ntriples.specs.Files.{Reads as ReadsFacts}
use Rattle.owl_read.specs.Documents.{Reads as ReadsOntology}
use Rattle.update_engine.specs.declared.judging.IllFormed.{IllFormed}
use Rattle.update_engine.specs.Judging.{IsNamed}
use Rattle.update_read.specs.declared.reading.ReadUpdate.{ReadUpdate}
use Rattle.update_read.specs.Outcomes.{ReadsUpdate}
use Rattle.dlupdate.specs.declared.reports.Report.{Report}
use Rattle.dlupdate.specs.declared.reports.Stop.{Stop}
use Rattle.dlupdate.specs.declared.reports.Stop.TheVariants as stop
use Rattle.dlupdate.specs.Commands.{Command, Check, Apply, Script, Says}
use Rattle.dlupdate.specs.Texts as text

-- the sizes that files may have, in bytes
abbrev pub ontology_limit : ℕ
ontology_limit = 16777216

abbrev pub facts_limit : ℕ
facts_limit = 268435456

abbrev pub update_limit : ℕ
update_limit = 1048576

-- files by name, with their bytes
abbrev pub Contents : Type 0
Contents = List ℕ → Option (List ℕ)

-- the file of this name has these bytes, and no more than the limit
abbrev pub Has : Contents → List ℕ → ℕ → List ℕ → Type 0
Has contents name limit bytes = (contents name ≡ Some bytes) × (length bytes ≤ limit)

-- the file isn't read, and so the run ends: it is missing or too long, its reader refuses it at a line, or it can't be read
pub data IsUnread (contents : Contents) (name : List ℕ) (limit : ℕ) (Refuses : List ℕ → ℕ → ReadKind → Type 0) (status : ℕ) (printed : List ℕ) : Type 0 where
  missing : contents name ≡ None → status ≡ 3 → printed ≡ text.missing name → IsUnread contents name limit Refuses status printed
  too_long : (bytes : List ℕ) → contents name ≡ Some bytes → limit < length bytes → status ≡ 3 → printed ≡ text.too_long name → IsUnread contents name limit Refuses status printed
  refused : (bytes : List ℕ) (line : ℕ) (kind : ReadKind) → Has contents name limit bytes → Refuses bytes line kind → status ≡ 3 → printed ≡ text.refused name line kind → IsUnread contents name limit Refuses status printed
  failed : status ≡ 6 → printed ≡ text.failed name → IsUnread contents name limit Refuses status printed

-- the refusals of the three readers
abbrev pub RefusesOntology : List ℕ → ℕ → ReadKind → Type 0
RefusesOntology bytes line kind = ReadsOntology bytes (Err (Refused line kind))

abbrev pub RefusesFacts : Theory → List ℕ → ℕ → ReadKind → Type 0
RefusesFacts theory bytes line kind = ReadsFacts theory bytes (Err (Refused line kind))

abbrev pub RefusesUpdate : Theory → List ℕ → ℕ → ReadKind → Type 0
RefusesUpdate theory bytes line kind = ReadsUpdate theory bytes (Err (Refused line kind))

-- the file has this ontology with these assertions, of which so many were skipped
abbrev pub GivesOntology : Contents → List ℕ → Theory → List Fact → ℕ → Type 0
GivesOntology contents name theory facts skipped = (bytes : List ℕ) × Has contents name ontology_limit bytes × ReadsOntology bytes (Ok (theory, facts, skipped))

-- the opening facts: the assertions of the ontology, and behind them those of the file of facts, where there is one
abbrev pub Opens : Contents → List ℕ → Option (List ℕ) → Theory → List Fact → ℕ → Type 0
Opens contents ontology None theory all skipped = GivesOntology contents ontology theory all skipped
Opens contents ontology (Some name) theory all skipped =
    (given : List Fact) × (before : ℕ) × GivesOntology contents ontology theory given before × ((bytes : List ℕ) × Has contents name facts_limit bytes × Gathers theory given before bytes all skipped)

-- the run ends before its facts are open
pub data Unopened (contents : Contents) (ontology : List ℕ) (facts : Option (List ℕ)) (status : ℕ) (printed : List ℕ) : Type 0 where
  no_ontology : IsUnread contents ontology ontology_limit RefusesOntology status printed → Unopened contents ontology facts status printed
  no_facts : (name : List ℕ) (theory : Theory) (given : List Fact) (before : ℕ) → facts ≡ Some name → GivesOntology contents ontology theory given before
      → IsUnread contents name facts_limit (RefusesFacts theory) status printed → Unopened contents ontology facts status printed
  alone : (theory : Theory) (all : List Fact) (skipped : ℕ) (f : Fact) → Opens contents ontology facts theory all skipped → Contradicts theory.axioms all (refusal.Alone f)
      → status ≡ 4 → printed ≡ text.contradiction theory (refusal.Alone f) → Unopened contents ontology facts status printed
  pair : (theory : Theory) (all : List Fact) (skipped : ℕ) (f g : Fact) → Opens contents ontology facts theory all skipped → Contradicts theory.axioms all (refusal.Pair f g)
      → status ≡ 4 → printed ≡ text.contradiction theory (refusal.Pair f g) → Unopened contents ontology facts status printed

-- the file has this update over the ontology
abbrev pub GivesUpdate : Contents → Theory → List ℕ → ReadUpdate → Type 0
GivesUpdate contents theory name update = (bytes : List ℕ) × Has contents name update_limit bytes × ReadsUpdate theory bytes (Ok update)

-- an update takes the stored facts to the next and loses these: what is stored means the greatest part of the old closure that can be kept, with the insertions
pub record Takes (theory : Theory) (stored : List Fact) (update : ReadUpdate) (lost next : List Fact) : Type 0 where
  pub well_formed : IsWellFormed theory.axioms update.inserts update.deletes
  pub stored_is : Lists (IsStored theory.axioms stored update.inserts update.deletes) next
  pub lost_is : Lists (IsLost theory.axioms stored next) lost
  pub updates : Updates theory.axioms stored update.inserts update.deletes next
  pub consistent : IsConsistent theory.axioms next

-- from the update of this number on, over these stored facts: what the updates of these names come to, each taken over what the one before stored
pub data Follows (contents : Contents) (theory : Theory) (head : ℕ → List ℕ) : ℕ → List Fact → List (List ℕ) → ℕ → List ℕ → Type 0 where
  -- all were taken
  ends : (n : ℕ) (stored : List Fact) (status : ℕ) (printed : List ℕ) → status ≡ 0 → printed ≡ text.stored theory stored → Follows contents theory head n stored [] status printed
  -- the next isn't read
  no_update : (n : ℕ) (stored : List Fact) (name : List ℕ) (names : List (List ℕ)) (status : ℕ) (printed : List ℕ)
      → IsUnread contents name update_limit (RefusesUpdate theory) status printed → Follows contents theory head n stored (name ∷ names) status printed
  -- the next contradicts itself
  ill_formed : (n : ℕ) (stored : List Fact) (name : List ℕ) (names : List (List ℕ)) (status : ℕ) (printed : List ℕ) (update : ReadUpdate) (ill : IllFormed)
      → GivesUpdate contents theory name update → IsNamed theory.axioms update.inserts update.deletes ill → status ≡ 5
      → printed ≡ text.ill_formed theory n update.inserts update.deletes ill → Follows contents theory head n stored (name ∷ names) status printed
  -- the next is taken
  goes : (n : ℕ) (stored : List Fact) (name : List ℕ) (names : List (List ℕ)) (status : ℕ) (printed rest : List ℕ) (update : ReadUpdate) (lost next : List Fact)
      → GivesUpdate contents theory name update → Takes theory stored update lost next → Follows contents theory head (n + 1) next names status rest
      → printed ≡ text.updated (head n) theory update.skipped lost ++ rest → Follows contents theory head n stored (name ∷ names) status printed

-- from these opening facts, in order
abbrev pub FollowsFrom : Contents → Theory → (ℕ → List ℕ) → List Fact → List (List ℕ) → ℕ → List ℕ → Type 0
FollowsFrom contents theory head facts names status printed = (base : List Fact) × Lists (Contains facts) base × Follows contents theory head 0 base names status printed

-- `apply` prints nothing before its one update, and `script` the number of each
abbrev pub no_head : ℕ → List ℕ
no_head n = []

abbrev pub numbered : ℕ → List ℕ
numbered n = text.counted (codes "update ") n

-- the status and the text of a run with these words
pub data Comes (contents : Contents) (words : List (List ℕ)) (status : ℕ) (printed : List ℕ) : Type 0 where
  -- the words are no command
  faulty : ((c : Command) → ¬ Says words c) → status ≡ 2 → printed ≡ text.error (codes "words") → Comes contents words status printed
  -- a check ends before its facts are open
  unchecked : (ontology : List ℕ) (facts : Option (List ℕ)) → Says words (Check ontology facts) → Unopened contents ontology facts status printed → Comes contents words status printed
  -- the facts are consistent
  checks : (ontology : List ℕ) (facts : Option (List ℕ)) (theory : Theory) (all : List Fact) (skipped : ℕ) → Says words (Check ontology facts)
      → Opens contents ontology facts theory all skipped → IsConsistent theory.axioms all → status ≡ 0
      → printed ≡ text.checked (length theory.terms) (length all) skipped → Comes contents words status printed
  unapplied : (ontology : List ℕ) (updates : List (List ℕ)) → Says words (Apply ontology updates) → Unopened contents ontology None status printed → Comes contents words status printed
  -- the update is taken over the ontology's own assertions
  applies : (ontology : List ℕ) (updates : List (List ℕ)) (theory : Theory) (all : List Fact) (skipped : ℕ) → Says words (Apply ontology updates)
      → Opens contents ontology None theory all skipped → IsConsistent theory.axioms all → FollowsFrom contents theory no_head all updates status printed → Comes contents words status printed
  unscripted : (ontology facts : List ℕ) (updates : List (List ℕ)) → Says words (Script ontology facts updates) → Unopened contents ontology (Some facts) status printed → Comes contents words status printed
  -- the updates are taken one after another
  scripts : (ontology facts : List ℕ) (updates : List (List ℕ)) (theory : Theory) (all : List Fact) (skipped : ℕ) → Says words (Script ontology facts updates)
      → Opens contents ontology (Some facts) theory all skipped → IsConsistent theory.axioms all → FollowsFrom contents theory numbered all updates status printed → Comes contents words status printed

-- a report, where the contents of the files are told
abbrev pub IsTold : Option Contents → (Contents → ℕ → List ℕ → Type 0) → Report → Type 0
IsTold contents P report = IfSome contents (λ c. P c report.status report.text.items)

-- the run ends with such a report, or for want of memory
abbrev pub IsStopped : Option Contents → (Contents → ℕ → List ℕ → Type 0) → Stop → Type 0
IsStopped contents P (stop.Report report) = IsTold contents P report
IsStopped contents P stop.OutOfMemory = Unit {0}

-- status 6 comes only where the count of faults rose
abbrev pub FailsOnly : Type 0 → ℕ → Type 0
FailsOnly rose status = status ≡ 6 → rose

abbrev pub StopsOnly : Type 0 → Stop → Type 0
StopsOnly rose (stop.Report report) = FailsOnly rose report.status
StopsOnly rose stop.OutOfMemory = Unit {0}

-- no reader refuses
abbrev pub NoRefusal : List ℕ → ℕ → ReadKind → Type 0
NoRefusal bytes line kind = ⊥

-- the run ends with this status and text, or for want of memory
abbrev pub IsReported : ℕ → List ℕ → Stop → Type 0
IsReported status printed (stop.Report report) = (report.status ≡ status) × (report.text.items ≡ printed)
IsReported status printed stop.OutOfMemory = Unit {0}

-- the run ends with what a refused file prints, or for want of memory
abbrev pub IsReportedOf : List ℕ → ReadRefusal → Stop → Type 0
IsReportedOf name (Refused line kind) s = IsReported 3 (text.refused name line kind) s
IsReportedOf name NoMemory s = s ≡ stop.OutOfMemory
