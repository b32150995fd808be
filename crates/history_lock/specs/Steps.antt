-- What each kind of step makes of a seat's view, and tells.
use Rattle.std.specs.Prelude.{◌≡◌, ◌≢◌, ◌⊎◌, ℕ, ◌+◌, List, [], ◌∷◌, ◌++◌, length, Option, Some, None, Bool, true, false}
use Rattle.atomic_table.specs.Table.{Me, Step, rest}
use Rattle.dl_base.specs.declared.requests.Entry.{Entry}
use Rattle.history_lock.specs.declared.histories.Opening.{Opening}
use Rattle.history_lock.specs.declared.rule.Before.{Before}
use Rattle.history_lock.specs.declared.rule.View.{View}
use Rattle.history_lock.specs.declared.rule.Stage.{Stage}
use Rattle.history_lock.specs.declared.rule.Stage.TheVariants.{Spent, Out, Joined, Waiting, Taken, Looked}
use Rattle.history_lock.specs.Growth.{Continues, AreApart, longer_of}
use Rattle.history_lock.specs.Rule.{Follows}

-- what a seat knows of a later history
abbrev pub ViewContinues : View → List Entry → Type 0
ViewContinues v later = Continues v.editor v.noted v.seen v.carried later

module _ {S : Type 0} (opening : S → Opening) (entries : S → List Entry) where
  -- where the number found is the seat's ticket, it is in its turn, takes the slot and notes the history of the state in it; else nothing changes
  abbrev pub tries : Step (Option S) → Me (Option S) View → ℕ → Me (Option S) View → Type 0
  tries st m n m' = (t : ℕ) → m.0.stage ≡ Waiting t
      → (n ≡ t → (x : S) × (m'.1 ≡ (0, Some x) ∷ m.1) × (m'.0 ≡ record m.0 { stage = Taken t (entries x) }) × (opening x ≡ m.0.opening)) × (n ≢ t → m' ≡ m)

  -- the seat has seen the history of the state in the slot that it holds
  abbrev pub adds : Step (Option S) → Me (Option S) View → ℕ → Me (Option S) View → Type 0
  adds st m n m' = (x : S) → m.1 ≡ (0, Some x) ∷ [] → (m'.1 ≡ m.1) × (m'.0 ≡ record m.0 { seen = entries x })

module _ {S : Type 0} where
  -- the seat has the ticket found
  abbrev pub draws : Step (Option S) → Me (Option S) View → ℕ → Me (Option S) View → Type 0
  draws st m n m' = (m'.1 ≡ m.1) × (m'.0 ≡ record m.0 { stage = Waiting n })

  -- the seat has seen the history noted, and adds its length to its looks; the number found is that length
  abbrev pub sees : Step (Option S) → Me (Option S) View → ℕ → Me (Option S) View → Type 0
  sees st m n m' = (t : ℕ) (h : List Entry) → m.0.stage ≡ Taken t h
      → (m'.1 ≡ m.1) × (m'.0 ≡ record m.0 { stage = Looked t; seen = h; looks = m.0.looks ++ length h ∷ [] }) × (n ≡ length h) × ViewContinues m.0 h

  -- the seat is in its turn no longer, and the slot is given back
  abbrev pub passes : Step (Option S) → Me (Option S) View → ℕ → Me (Option S) View → Type 0
  passes st m n m' = (m'.1 ≡ rest m.1) × (m'.0 ≡ record m.0 { stage = Out })

  -- what a joined seat has seen is later than what both had seen
  abbrev pub settles : Step (Option S) → Me (Option S) View → ℕ → Me (Option S) View → Type 0
  settles st m n m' = (a b : Before) → m.0.stage ≡ Joined a b
      → (m'.1 ≡ m.1) × (m'.0 ≡ record m.0 { stage = Out }) × Follows a m.0.seen × Follows b m.0.seen × AreApart a.carried b.carried

-- the first seat after a split has noted one pass more
abbrev pub first_after : View → View
first_after v = record v { noted = v.noted + 1 }

-- the seat split off has the number noted before as its editor, has seen the same, has no looks and carries its editor alone
abbrev pub new_view : View → View
new_view v = record { stage = Out; editor = v.noted; opening = v.opening; seen = v.seen; looks = []; noted = 0; carried = v.noted ∷ [] }

-- a seat before it was joined
abbrev pub before_of : View → Before
before_of v = record { editor = v.editor; noted = v.noted; seen = v.seen; carried = v.carried }

-- the joined seat has seen the longer history and carries the editors of both
abbrev pub joined_view : View → View → View
joined_view v w = record v { stage = Joined (before_of v) (before_of w); seen = longer_of v.seen w.seen; carried = v.carried ++ w.carried }

-- a seat that was joined into another
abbrev pub spent_view : View
spent_view = record { stage = Spent; editor = 0; opening = record { ontology = record { terms = []; axioms = [] }; facts = []; limit = 0 }; seen = []; looks = []; noted = 0; carried = [] }

-- the seat is in its turn, has seen the history and holds the slot, from which the state was moved out
abbrev pub IsTurning : {S : Type 0} → Me (Option S) View → Type 0
IsTurning m = ((t : ℕ) × (m.0.stage ≡ Looked t)) × (m.1 ≡ (0, None) ∷ [])

-- the seat is in no turn and holds nothing
abbrev pub IsOut : {S : Type 0} → Me (Option S) View → Type 0
IsOut m = (m.0.stage ≡ Out) × (m.1 ≡ [])

-- between two calls a seat is in no turn, or in its turn
abbrev pub IsBetweenCalls : {S : Type 0} → Me (Option S) View → Type 0
IsBetweenCalls m = IsOut m ⊎ IsTurning m

-- whether the seat is in its turn
abbrev pub is_inside : Stage → Bool
is_inside Spent = false
is_inside Out = false
is_inside (Joined a b) = false
is_inside (Waiting t) = false
is_inside (Taken t h) = true
is_inside (Looked t) = true

-- a turn began: of the seat before and in its turn, and the history found
pub record Enters (v w : View) (history : List Entry) : Type 0 where
  pub seen : w.seen ≡ history
  pub later : ViewContinues v w.seen
  pub looks : w.looks ≡ v.looks ++ length w.seen ∷ []
  pub opening : w.opening ≡ v.opening
  pub editor : w.editor ≡ v.editor
  pub noted : w.noted ≡ v.noted
  pub carried : w.carried ≡ v.carried

-- a turn ended: of the seat in its turn and after it, and the history then seen
pub record Leaves (v w : View) (history : List Entry) : Type 0 where
  pub seen : w.seen ≡ history
  pub looks : w.looks ≡ v.looks
  pub opening : w.opening ≡ v.opening
  pub editor : w.editor ≡ v.editor
  pub noted : w.noted ≡ v.noted
  pub carried : w.carried ≡ v.carried
