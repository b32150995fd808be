-- How a history grows, as one seat knows it.
use Rattle.std.specs.Prelude.{◌≡◌, ◌≢◌, ℕ, ◌<◌, List, ◌++◌, [], ◌∷◌, All, length, take, Some, slice_get, if◌then◌else◌, nat_lt}
use mathlib.Core.List.{IsPrefix}
use Rattle.dl_base.specs.declared.requests.Entry.{Entry}
use Rattle.dl_base.specs.Histories.{own}

-- the number of each entry is the count of its editor's entries before it
pub record AreNumbered (history : List Entry) : Type 0 where
  pub each : (n : ℕ) (e : Entry) → slice_get history n ≡ Some e → e.number ≡ length (own e.editor (take n history))

-- of a seat of this editor, which has noted so many passes, seen a history and carries these editors: the later history begins with the one seen, has of each editor carried the entries seen alone,
-- is numbered, and where the seat is the first, each of its entries is of an editor below the passes noted
pub record Continues (editor noted : ℕ) (seen : List Entry) (carried : List ℕ) (later : List Entry) : Type 0 where
  pub begins : IsPrefix seen later
  pub own_entries : All (λ e. own e later ≡ own e seen) carried
  pub numbered : AreNumbered later
  pub editors : editor ≡ 0 → All (λ (x : Entry). x.editor < noted) later

-- the later history is the one seen and one entry more, of this editor and with its next number
pub record IsOneMore (editor : ℕ) (seen later : List Entry) : Type 0 where
  pub entry : Entry
  pub follows : later ≡ seen ++ entry ∷ []
  pub editor_is : entry.editor ≡ editor
  pub number_is : entry.number ≡ length (own editor seen)

-- the longer of two beginnings of a history
abbrev pub longer_of : List Entry → List Entry → List Entry
longer_of xs ys = if nat_lt (length xs) (length ys) then ys else xs

-- no editor stands in both lists
abbrev pub AreApart : List ℕ → List ℕ → Type 0
AreApart ones others = All (λ one. All (λ other. one ≢ other) others) ones
