-- The transactions that the core holds, each with its editor, and what a commit makes of one.
use Rattle.std.specs.Prelude.{◌≡◌, ℕ, ◌<◌, ◌≤◌, List, Some, length, slice_get, slice_set, take}
use Rattle.dl_base.specs.Commits.{Outcome, IsOutcome}
use Rattle.dl_base.specs.Commits as outcome
use Rattle.dl_base.specs.Histories.{IsVersion, in_force_at}
use Rattle.dl_base.specs.declared.requests.Request.{Request}
use Rattle.dl_base.specs.declared.statements.Fact.{Fact}
use Rattle.serial_history.specs.States.{Seen}
use Rattle.transaction.specs.Serving.{Open, IsServed}
use Rattle.transaction.specs.Worlds.{Begun}
use Rattle.transaction.specs.declared.events.Reply.{Reply}
use Rattle.transaction.specs.declared.events.Reply.TheVariants as reply

-- an editor, and the transaction that it has begun
pub record Held : Type 0 where
  pub editor : ℕ
  pub transaction : Open

-- the same as an event sees it
abbrev pub begun_of : Held → Begun
begun_of h = record { editor = h.editor; base = h.transaction.number; requests = h.transaction.requests }

-- the transaction at this place
abbrev pub HoldsAt : List Held → ℕ → Open → Type 0
HoldsAt helds place t = (h : Held) × (slice_get helds place ≡ Some h) × (h.transaction ≡ t)

-- no transaction before this place is the editor's
abbrev pub NoneBefore : ℕ → List Held → ℕ → Type 0
NoneBefore editor helds place = (k : ℕ) (h : Held) → k < place → slice_get helds k ≡ Some h → ¬ (h.editor ≡ editor)

-- the transaction at this place is the editor's, and those before aren't
abbrev pub IsPlaceOf : ℕ → List Held → ℕ → Type 0
IsPlaceOf editor helds place = ((t : Open) × (slice_get helds place ≡ Some (record { editor = editor; transaction = t }))) × NoneBefore editor helds place

-- the transaction at this place serves the request, and the others stay
abbrev pub ServesAt : List Held → ℕ → Request → List Fact → List Held → Type 0
ServesAt old place request told new = (h : Held) × (after : Open) × (slice_get old place ≡ Some h) × IsServed h.transaction request told after
    × (new ≡ slice_set old place (record { editor = h.editor; transaction = after }))

-- the transaction began at a version of the history, and under the ontology in force there
pub record BeganIn (s : Seen) (t : Open) : Type 0 where
  pub base : t.number ≤ length s.entries
  pub force : t.ontology ≡ in_force_at s.opening s.entries t.number
  pub version : IsVersion s.facts (take t.number s.entries) t.base

-- each of them did
abbrev pub AllBeganIn : Seen → List Held → Type 0
AllBeganIn s helds = (place : ℕ) (h : Held) → slice_get helds place ≡ Some h → BeganIn s h.transaction

-- the same opening and limit
abbrev pub IsSameOpening : Seen → Seen → Type 0
IsSameOpening s t = (t.opening ≡ s.opening) × (t.facts ≡ s.facts) × (t.limit ≡ s.limit)

-- a commit of the editor's transaction has this outcome, and these are the entries afterwards
abbrev pub HasOutcome : Seen → ℕ → Open → Outcome → Seen → Type 0
HasOutcome s editor o reached t = IsOutcome s.opening s.facts s.limit s.entries editor o.number o.requests reached t.entries

-- the commit of the editor's transaction is answered so, and takes the history s to the history t
abbrev pub IsCommitted : Seen → ℕ → Open → Reply → Seen → Type 0
IsCommitted s editor o (reply.Committed n) t = HasOutcome s editor o (outcome.Committed n) t × IsSameOpening s t
IsCommitted s editor o (reply.Conflict met) t = HasOutcome s editor o (outcome.Conflict met.entry met.place met.request) t × (t ≡ s)
IsCommitted s editor o other t = ⊥

-- the same of the transaction at this place
abbrev pub PublishesAt : Seen → List Held → ℕ → Reply → Seen → Type 0
PublishesAt s helds place answer t = (h : Held) × (slice_get helds place ≡ Some h) × IsCommitted s h.editor h.transaction answer t
