-- The rule of the lock's table.
use Rattle.std.specs.Prelude.{◌≡◌, ◌⊎◌, ℕ, ◌+◌, ◌%◌, ◌^◌, ◌<◌, ◌≤◌, List, [], ◌∷◌, length, Option, Some, All, Contains}
use mathlib.Core.Option.{some, none}
use mathlib.Core.List.{IsPrefix}
use lib.ListN.{get_elem?}
use Rattle.atomic_table.specs.Table.{State}
use Rattle.dl_base.specs.declared.requests.Entry.{Entry}
use Rattle.dl_base.specs.Histories.{own}
use Rattle.history_lock.specs.declared.histories.Opening.{Opening}
use Rattle.history_lock.specs.declared.rule.Before.{Before}
use Rattle.history_lock.specs.declared.rule.View.{View}
use Rattle.history_lock.specs.declared.rule.Stage.{Stage}
use Rattle.history_lock.specs.declared.rule.Stage.TheVariants.{Spent, Out, Joined, Waiting, Taken, Looked}
use Rattle.history_lock.specs.Growth.{AreNumbered, Continues, AreApart}

-- the view of the first seat at the start
abbrev pub first_view : Opening → View
first_view o = record { stage = Out; editor = 0; opening = o; seen = []; looks = []; noted = 1; carried = 0 ∷ [] }

-- 1 where the seat has a ticket
abbrev pub tickets : Stage → ℕ
tickets Spent = 0
tickets Out = 0
tickets (Joined a b) = 0
tickets (Waiting t) = 1
tickets (Taken t h) = 1
tickets (Looked t) = 1

-- the seats that have a ticket
abbrev pub tickets_in : List View → ℕ
tickets_in [] = 0
tickets_in (v ∷ vs) = tickets v.stage + tickets_in vs

-- the seat was not joined into another
abbrev pub IsLive : Stage → Type 0
IsLive Spent = ⊥
IsLive Out = Unit {0}
IsLive (Joined a b) = Unit {0}
IsLive (Waiting t) = Unit {0}
IsLive (Taken t h) = Unit {0}
IsLive (Looked t) = Unit {0}

-- the seat is in its turn
abbrev pub IsInside : Stage → Type 0
IsInside Spent = ⊥
IsInside Out = ⊥
IsInside (Joined a b) = ⊥
IsInside (Waiting t) = ⊥
IsInside (Taken t h) = Unit {0}
IsInside (Looked t) = Unit {0}

-- the history seen is a later one than a joined seat had seen
abbrev pub Follows : Before → List Entry → Type 0
Follows b seen = Continues b.editor b.noted b.seen b.carried seen

-- what the rule knows of a seat's stage: the place in the queue of one that waits, that one in its turn is the first there and has the whole history, and what a joined one has seen
abbrev pub Stands : ℕ → List ℕ → ℕ → List Entry → List Entry → Stage → Type 0
Stands serving queue id log seen Spent = Unit {0}
Stands serving queue id log seen Out = Unit {0}
Stands serving queue id log seen (Joined a b) = Follows a seen × Follows b seen × AreApart a.carried b.carried
Stands serving queue id log seen (Waiting t) = (k : ℕ) × (get_elem? queue k ≡ some id) × (t ≡ (serving + k) % 2 ^ 64)
Stands serving queue id log seen (Taken t h) = (get_elem? queue 0 ≡ some id) × (t ≡ serving) × (h ≡ log)
Stands serving queue id log seen (Looked t) = (get_elem? queue 0 ≡ some id) × (t ≡ serving) × (seen ≡ log)

-- the editor was made, this seat carries it, and its entries stand in what the seat has seen
abbrev pub IsCarried : ℕ → (ℕ → ℕ) → List Entry → ℕ → List Entry → ℕ → Type 0
IsCarried made owner log id seen e = (e < made) × (owner e ≡ id) × (own e log ≡ own e seen)

-- what the rule knows of a seat that is not spent: its opening is that of the lock, what it has seen begins the history, its editor is its place among the seats, the first one's number is the seats made,
-- it carries its own editor, and each editor that it carries is carried by it alone and has its entries in what was seen
pub record Knows (start : Opening) (made : ℕ) (owner : ℕ → ℕ) (log : List Entry) (id : ℕ) (v : View) : Type 0 where
  pub same : v.opening ≡ start
  pub begins : IsPrefix v.seen log
  pub placed : v.editor ≡ id
  pub zeroth : id ≡ 0 → v.noted ≡ made
  pub itself : Contains v.carried v.editor
  pub carries : All (IsCarried made owner log id v.seen) v.carried

-- a seat fits the rule by its stage, and by what it knows if it is not spent
pub record Fits (start : Opening) (made : ℕ) (owner : ℕ → ℕ) (serving : ℕ) (queue : List ℕ) (log : List Entry) (id : ℕ) (v : View) : Type 0 where
  pub stands : Stands serving queue id log v.seen v.stage
  pub live : IsLive v.stage → Knows start made owner log id v

-- some seat that is not spent has seen the whole history
abbrev pub IsSeen : List Entry → List View → Type 0
IsSeen log views = (id : ℕ) × (v : View) × (get_elem? views id ≡ some v) × IsLive v.stage × (v.seen ≡ log)

module _ {S : Type 0} (opening : S → Opening) (entries : S → List Entry) where
  -- the state is at home with the whole history and nobody is in a turn, or it is out and somebody is
  abbrev pub IsHome : Opening → List Entry → State (Option S) View → Type 0
  IsHome start log s = ((st : S) × (s.homes ≡ some (Some st) ∷ []) × (entries st ≡ log) × (opening st ≡ start) × ((id : ℕ) (v : View) → get_elem? s.views id ≡ some v → IsInside v.stage → ⊥))
      ⊎ ((s.homes ≡ none ∷ []) × ((id : ℕ) × (v : View) × (get_elem? s.views id ≡ some v) × IsInside v.stage))

  -- the tickets from the one served on are those of the seats that queue, the third word counts the entries, there are at most as many as the limit and they are numbered, at most 1,024 seats were made,
  -- every entry's editor is one of them, and each seat fits; `owner` says which seat carries an editor
  pub record MeetsRule (s : State (Option S) View) : Type 0 where
    pub log : List Entry
    pub next : ℕ
    pub serving : ℕ
    pub queue : List ℕ
    pub start : Opening
    pub made : ℕ
    pub owner : ℕ → ℕ
    pub words : s.words ≡ next ∷ serving ∷ length log ∷ []
    pub next_is : next ≡ (serving + length queue) % 2 ^ 64
    pub below : serving < 2 ^ 64
    pub small : (length log ≤ start.limit) × (start.limit < 2 ^ 64)
    pub numbered : AreNumbered log
    pub made_is : length s.views ≡ made
    pub few : made ≤ 1024
    pub queued : tickets_in s.views ≡ length queue
    pub home : IsHome start log s
    pub editors : All (λ (x : Entry). x.editor < made) log
    pub longest : IsSeen log s.views
    pub each : (id : ℕ) (v : View) → get_elem? s.views id ≡ some v → Fits start made owner serving queue log id v
