-- The queue of the seats that have a ticket.
use Rattle.std.proofs.Common.{◌≡◌, ◌≢◌, ℕ, zero, suc, ◌+◌, ◌%◌, ◌^◌, List, [], ◌∷◌, ◌++◌, length, drop, sym, ◌∙◌, arith}
use mathlib.Core.Option.{some, some-injective, some-ne-none}
use lib.ListN.{get_elem?}
use Rattle.atomic_table.proofs.Lists.{at_longer}
use Rattle.dl_base.specs.declared.requests.Entry.{Entry}
use Rattle.history_lock.specs.declared.rule.Stage.{Stage}
use Rattle.history_lock.specs.declared.rule.Stage.TheVariants.{Spent, Out, Joined, Waiting, Taken, Looked}
use Rattle.history_lock.specs.Rule.{Stands, IsInside}

-- who is in its turn stands first in the queue
pub heads : (serving : ℕ) (queue : List ℕ) (id : ℕ) (log seen : List Entry) (st : Stage) → IsInside st → Stands serving queue id log seen st → get_elem? queue 0 ≡ some id
heads serving queue id log seen Spent i h = absurd i
heads serving queue id log seen Out i h = absurd i
heads serving queue id log seen (Joined a b) i h = absurd i
heads serving queue id log seen (Waiting t) i h = absurd i
heads serving queue id log seen (Taken t g) i h = h.0
heads serving queue id log seen (Looked t) i h = h.0

-- at the end of the queue there is one more
pub behind : (serving : ℕ) (queue : List ℕ) (more id : ℕ) (log seen : List Entry) (st : Stage) → Stands serving queue id log seen st → Stands serving (queue ++ more ∷ []) id log seen st
behind serving queue more id log seen Spent h = tt
behind serving queue more id log seen Out h = tt
behind serving queue more id log seen (Joined a b) h = h
behind serving queue more id log seen (Waiting t) h = (h.0, at_longer queue (more ∷ []) h.0 id h.1, h.2)
behind serving queue more id log seen (Taken t g) h = (at_longer queue (more ∷ []) 0 id h.0, h.1, h.2)
behind serving queue more id log seen (Looked t) h = (at_longer queue (more ∷ []) 0 id h.0, h.1, h.2)

pub same_head : (queue : List ℕ) (id me : ℕ) → get_elem? queue 0 ≡ some id → get_elem? queue 0 ≡ some me → id ≡ me
same_head queue id me a b = some-injective id me (sym a ∙ b)

-- who is not first is in no turn, so a longer history changes nothing for it
pub outside : (serving : ℕ) (queue : List ℕ) (id me : ℕ) (log log' seen : List Entry) (st : Stage) → id ≢ me → get_elem? queue 0 ≡ some me → Stands serving queue id log seen st → Stands serving queue id log' seen st
outside serving queue id me log log' seen Spent other first h = tt
outside serving queue id me log log' seen Out other first h = tt
outside serving queue id me log log' seen (Joined a b) other first h = h
outside serving queue id me log log' seen (Waiting t) other first h = h
outside serving queue id me log log' seen (Taken t g) other first h = absurd (other (same_head queue id me h.0 first))
outside serving queue id me log log' seen (Looked t) other first h = absurd (other (same_head queue id me h.0 first))

-- the first in the queue leaves
pub moves_up : (serving : ℕ) (queue : List ℕ) (id me : ℕ) (log seen : List Entry) (st : Stage) → id ≢ me → get_elem? queue 0 ≡ some me → Stands serving queue id log seen st → Stands ((serving + 1) % 2 ^ 64) (drop 1 queue) id log seen st
moves_up serving queue id me log seen Spent other first h = tt
moves_up serving queue id me log seen Out other first h = tt
moves_up serving queue id me log seen (Joined a b) other first h = h
moves_up serving [] id me log seen (Waiting t) other first h = absurd (some-ne-none me (sym first))
moves_up serving (q ∷ qs) id me log seen (Waiting t) other first (zero, at, is) = absurd (other (same_head (q ∷ qs) id me at first))
moves_up serving (q ∷ qs) id me log seen (Waiting t) other first (suc k, at, is) = (k, at, omega (arith, is))
moves_up serving queue id me log seen (Taken t g) other first h = absurd (other (same_head queue id me h.0 first))
moves_up serving queue id me log seen (Looked t) other first h = absurd (other (same_head queue id me h.0 first))

pub fewer : (queue : List ℕ) (id : ℕ) → get_elem? queue 0 ≡ some id → length (drop 1 queue) + 1 ≡ length queue
fewer [] id e = absurd (some-ne-none id (sym e))
fewer (q ∷ qs) id e = omega arith
