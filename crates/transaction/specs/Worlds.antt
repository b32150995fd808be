-- What contracts see of the core, and what an event does to it.
use Rattle.std.specs.Prelude.{◌≡◌, ℕ, ◌<◌, ◌≤◌, List, [], ◌∷◌, ◌++◌, All, Option, Some, None, cond, length, nat_eq, take}
use Rattle.std.specs.Arc.{arc_value}
use Rattle.dl_base.specs.declared.patterns.Pattern.{Pattern}
use Rattle.dl_base.specs.declared.statements.Fact.{Fact}
use Rattle.dl_base.specs.declared.requests.Entry.{Entry}
use Rattle.dl_base.specs.declared.requests.Request.{Request}
use Rattle.dl_base.specs.declared.requests.Request.TheVariants as asked
use Rattle.dl_base.specs.Commits.{Outcome, Replaced, IsOutcome, IsReplaced}
use Rattle.dl_base.specs.Commits as outcome
use Rattle.dl_base.specs.Histories.{HasChange, IsVersion, in_force, in_force_at}
use Rattle.dl_base.specs.Ontologies.{Theory, Extends, KnowsRequest}
use Rattle.dl_base.specs.Transactions.{Runs, Serves, IsWell}
use Rattle.dl_base.specs.Validity.{IsOntology}
use Rattle.transaction.specs.declared.events.Event.{Event}
use Rattle.transaction.specs.declared.events.Event.TheVariants as event
use Rattle.transaction.specs.declared.events.Reply.{Reply}
use Rattle.transaction.specs.declared.events.Reply.TheVariants as reply
use Rattle.dl_base.specs.Updates.{IsWellFormed}
use Rattle.update_engine.specs.Judging.{IsNamed}

-- a transaction that an editor has begun: the number of entries then, and its requests since
pub record Begun : Type 0 where
  pub editor : ℕ
  pub base : ℕ
  pub requests : List Request

-- the opening ontology and facts, how many entries there may be, the entries, and the transactions begun, one an editor
pub record State : Type 0 where
  pub opening : Theory
  pub facts : List Fact
  pub limit : ℕ
  pub entries : List Entry
  pub begun : List Begun

-- the transaction of this editor
abbrev pub of_editor : ℕ → List Begun → Option Begun
of_editor editor [] = None
of_editor editor (b ∷ begun) = cond (nat_eq b.editor editor) (Some b) (of_editor editor begun)

-- the transactions with this one in the place of its editor's, or at the end
abbrev pub with_one : Begun → List Begun → List Begun
with_one b [] = b ∷ []
with_one b (c ∷ begun) = cond (nat_eq c.editor b.editor) (b ∷ begun) (c ∷ with_one b begun)

-- the transactions without this editor's
abbrev pub without : ℕ → List Begun → List Begun
without editor [] = []
without editor (c ∷ begun) = cond (nat_eq c.editor editor) begun (c ∷ without editor begun)

-- the editor has begun no transaction
abbrev pub HasNone : State → ℕ → Type 0
HasNone s editor = of_editor editor s.begun ≡ None

-- the editor has begun this transaction
abbrev pub Has : State → ℕ → Begun → Type 0
Has s editor b = of_editor editor s.begun ≡ Some b

-- the editor has begun a transaction
abbrev pub HasOne : State → ℕ → Type 0
HasOne s editor = (b : Begun) × Has s editor b

-- the same with this transaction of its editor
abbrev pub with_begun : State → Begun → State
with_begun s b = record { opening = s.opening; facts = s.facts; limit = s.limit; entries = s.entries; begun = with_one b s.begun }

-- the same with these entries
abbrev pub with_entries : State → List Entry → State
with_entries s entries = record { opening = s.opening; facts = s.facts; limit = s.limit; entries = entries; begun = s.begun }

-- the same with these entries, and no transaction of the editor
abbrev pub ended : State → ℕ → List Entry → State
ended s editor entries = record { opening = s.opening; facts = s.facts; limit = s.limit; entries = entries; begun = without editor s.begun }

-- the ontology in force where the transaction began
abbrev pub theory_of : State → Begun → Theory
theory_of s b = in_force_at s.opening s.entries b.base

-- the facts after the requests of the transaction, from the version of its base
abbrev pub StandsAt : State → Begun → List Fact → Type 0
StandsAt s b stored = (old : List Fact) × (replies : List (List Fact)) × IsVersion s.facts (take b.base s.entries) old
    × Runs (theory_of s b).axioms old b.requests replies stored

-- one request more
abbrev pub recorded : Begun → Request → Begun
recorded b request = record { editor = b.editor; base = b.base; requests = b.requests ++ request ∷ [] }

-- a well-formed request of the editor's transaction, which has room for it, is answered so, and is recorded
abbrev pub IsAnswered : State → ℕ → Request → List Fact → State → Type 0
IsAnswered s editor request told t = (b : Begun) × Has s editor b × (length b.requests < 10000) × IsWell (theory_of s b).axioms request
    × ((stored new : List Fact) × StandsAt s b stored × Serves (theory_of s b).axioms request stored told new) × (t ≡ with_begun s (recorded b request))

-- the editor's transaction has as many requests as it may have
abbrev pub IsFilled : State → ℕ → Type 0
IsFilled s editor = (b : Begun) × Has s editor b × (length b.requests ≡ 10000)

-- the change contradicts itself, in a transaction that has room for it
abbrev pub IsIllFormed : State → ℕ → List Fact → List Fact → Rattle.update_engine.specs.declared.judging.IllFormed.IllFormed → Type 0
IsIllFormed s editor inserts deletes name = (b : Begun) × Has s editor b × (length b.requests < 10000) × IsNamed (theory_of s b).axioms inserts deletes name

-- a commit of the editor's transaction has this outcome, which ends it
abbrev pub Ends : State → ℕ → Outcome → State → Type 0
Ends s editor o t = (b : Begun) × Has s editor b
    × ((after : List Entry) × IsOutcome s.opening s.facts s.limit s.entries editor b.base b.requests o after × (t ≡ ended s editor after))

-- a commit of the editor's transaction has this outcome, which leaves it begun
abbrev pub Waits : State → ℕ → Outcome → State → Type 0
Waits s editor o t = ((b : Begun) × Has s editor b × IsOutcome s.opening s.facts s.limit s.entries editor b.base b.requests o s.entries) × (t ≡ s)

-- a replacement by an editor without a transaction has this outcome
abbrev pub Replaces : State → ℕ → Theory → Replaced → State → Type 0
Replaces s editor theory o t = HasNone s editor
    × ((after : List Entry) × IsReplaced s.opening s.facts s.limit s.entries editor theory o after × (t ≡ with_entries s after))

-- the event is answered so, and takes the state s to the state t
abbrev pub StepsTo : State → Event → Reply → State → Type 0
StepsTo s (event.Begin e) (reply.Begun n) t = HasNone s e × (n ≡ length s.entries) × (t ≡ with_begun s (record { editor = e; base = n; requests = [] }))
StepsTo s (event.Begin e) reply.AlreadyBegun t = HasOne s e × (t ≡ s)
StepsTo s (event.Begin e) other t = ⊥
StepsTo s (event.Ask e pattern) (reply.Answers answers) t = IsAnswered s e (asked.Ask pattern) answers t
StepsTo s (event.Ask e pattern) reply.TooManyRequests t = IsFilled s e × (t ≡ s)
StepsTo s (event.Ask e pattern) reply.NoTransaction t = HasNone s e × (t ≡ s)
StepsTo s (event.Ask e pattern) other t = ⊥
StepsTo s (event.Change e inserts deletes) (reply.Lost lost) t = IsAnswered s e (asked.Change inserts deletes) lost t
StepsTo s (event.Change e inserts deletes) (reply.IllFormed name) t = IsIllFormed s e inserts deletes name × (t ≡ s)
StepsTo s (event.Change e inserts deletes) reply.TooManyRequests t = IsFilled s e × (t ≡ s)
StepsTo s (event.Change e inserts deletes) reply.NoTransaction t = HasNone s e × (t ≡ s)
StepsTo s (event.Change e inserts deletes) other t = ⊥
StepsTo s (event.Commit e) (reply.Committed n) t = Ends s e (outcome.Committed n) t
StepsTo s (event.Commit e) (reply.ReadOnly n) t = Ends s e (outcome.ReadOnly n) t
StepsTo s (event.Commit e) (reply.Conflict met) t = Ends s e (outcome.Conflict met.entry met.place met.request) t
StepsTo s (event.Commit e) (reply.HistoryFull n) t = Waits s e outcome.HistoryFull t × (n ≡ s.limit)
StepsTo s (event.Commit e) reply.NoTransaction t = HasNone s e × (t ≡ s)
StepsTo s (event.Commit e) other t = ⊥
StepsTo s (event.Abort e) reply.Aborted t = HasOne s e × (t ≡ ended s e s.entries)
StepsTo s (event.Abort e) reply.NoTransaction t = HasNone s e × (t ≡ s)
StepsTo s (event.Abort e) other t = ⊥
StepsTo s (event.Replace e ontology) (reply.Replaced n) t = Replaces s e (arc_value ontology) (outcome.InForce n) t
StepsTo s (event.Replace e ontology) (reply.Alone f) t = Replaces s e (arc_value ontology) (outcome.Alone f) t
StepsTo s (event.Replace e ontology) (reply.Pair f g) t = Replaces s e (arc_value ontology) (outcome.Pair f g) t
StepsTo s (event.Replace e ontology) (reply.HistoryFull n) t = Replaces s e (arc_value ontology) outcome.NoRoom t × (n ≡ s.limit)
StepsTo s (event.Replace e ontology) reply.AlreadyBegun t = HasOne s e × (t ≡ s)
StepsTo s (event.Replace e ontology) other t = ⊥

-- what the event asks or changes is over terms of the ontology of the editor's transaction, and what it puts in force is an ontology that
-- extends the one in force
abbrev pub KnowsEvent : State → Event → Type 0
KnowsEvent s (event.Ask e pattern) = (b : Begun) → Has s e b → KnowsRequest (theory_of s b) (asked.Ask pattern)
KnowsEvent s (event.Change e inserts deletes) = (b : Begun) → Has s e b → KnowsRequest (theory_of s b) (asked.Change inserts deletes)
KnowsEvent s (event.Replace e ontology) = IsOntology (arc_value ontology) × Extends (arc_value ontology) (in_force s.opening s.entries)
KnowsEvent s other = Unit {0}

-- the editor's transaction has room for one request more
abbrev pub HasSpace : State → ℕ → (Begun → Type 0) → Type 0
HasSpace s editor P = (b : Begun) × Has s editor b × (length b.requests < 10000) × P b

-- to answer the event may take memory: nothing that stands already tells the answer
abbrev pub TakesMemory : State → Event → Type 0
TakesMemory s (event.Begin e) = HasNone s e
TakesMemory s (event.Ask e pattern) = HasSpace s e (λ b. Unit {0})
TakesMemory s (event.Change e inserts deletes) = HasSpace s e (λ b. IsWellFormed (theory_of s b).axioms inserts deletes)
TakesMemory s (event.Commit e) = ((b : Begun) × Has s e b × HasChange b.requests) × (length s.entries < s.limit)
TakesMemory s (event.Abort e) = ⊥
TakesMemory s (event.Replace e ontology) = HasNone s e × (length s.entries < s.limit)
