-- What contracts see of a seat.
use Rattle.std.specs.Prelude.{◌≡◌, ℕ, ◌<◌, ◌≤◌, ◌^◌, Bool, false, List, [], ◌∷◌, Contains, length}
use Rattle.atomic_table.specs.Table.{Me}
use Rattle.atomic_table.specs.Seated.{TableId}
use Rattle.std.specs.Prelude.{Option}
use Rattle.dl_base.specs.declared.requests.Entry.{Entry}
use Rattle.history_lock.specs.declared.histories.Opening.{Opening}
use Rattle.history_lock.specs.declared.rule.View.{View}
use Rattle.history_lock.specs.Growth.{Continues}
use Rattle.history_lock.specs.Steps.{IsBetweenCalls}

-- the lock to which it belongs, its editor, the opening of the state, the history seen, the lengths at its turns, the passes made that it has noted, the editors that it carries, and whether it is in its turn
pub record SeatState : Type 0 where
  pub lock : TableId
  pub editor : ℕ
  pub opening : Opening
  pub seen : List Entry
  pub looks : List ℕ
  pub noted : ℕ
  pub carried : List ℕ
  pub turning : Bool

-- the seat with which a lock starts
abbrev pub first_seat : TableId → Opening → SeatState
first_seat lock opening = record { lock = lock; editor = 0; opening = opening; seen = []; looks = []; noted = 1; carried = 0 ∷ []; turning = false }

-- the history is a later one than the seat has seen
abbrev pub IsLater : SeatState → List Entry → Type 0
IsLater seat history = Continues seat.editor seat.noted seat.seen seat.carried history

-- a seat's numbers are those of its view; between two calls the seat is in no turn or has seen the history, its limit fits a word, at most 1,024 passes are noted, and it carries its own editor
pub record IsSound {S : Type 0} (editor noted seen : ℕ) (me : Me (Option S) View) : Type 0 where
  pub editor_is : editor ≡ me.0.editor
  pub noted_is : noted ≡ me.0.noted
  pub seen_is : seen ≡ length me.0.seen
  pub between : IsBetweenCalls me
  pub limit : me.0.opening.limit < 2 ^ 64
  pub few : me.0.noted ≤ 1024
  pub itself : Contains me.0.carried me.0.editor
