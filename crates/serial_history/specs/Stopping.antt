-- What of an entry stands in the way of a transaction.
use Rattle.std.specs.Prelude.{◌≡◌, ℕ, ◌<◌, ◌⊎◌, List, [], ◌∷◌, Contains, Some, slice_get}
use Rattle.dl_base.specs.declared.axioms.Axiom.{Axiom}
use Rattle.dl_base.specs.declared.requests.Changed.{Changed}
use Rattle.dl_base.specs.declared.requests.Entry.{Entry}
use Rattle.dl_base.specs.declared.requests.Request.{Request}
use Rattle.dl_base.specs.Clash.{HasClash}
use Rattle.dl_base.specs.IllFormed.{IsEarlier}
use Rattle.dl_base.specs.Staleness.{IsEntry, IsReplacing, IsUnreplaced}
use Rattle.dl_base.specs.Transactions.{IsMetBy}

-- the changed fact at the one place meets the request at the other
abbrev pub MeetsAt : List Axiom → List Request → List Changed → ℕ → ℕ → Type 0
MeetsAt axioms requests changed place request = (c : Changed) × (r : Request) × (slice_get changed place ≡ Some c) × (slice_get requests request ≡ Some r) × IsMetBy axioms c.fact r

-- this is the first changed fact that meets a request, and the first request that it meets
pub record IsFirstMeeting (axioms : List Axiom) (requests : List Request) (changed : List Changed) (place request : ℕ) : Type 0 where
  pub here : MeetsAt axioms requests changed place request
  pub least : (b c : ℕ) → IsEarlier b c place request → ¬ MeetsAt axioms requests changed b c

-- no changed fact meets a request
abbrev pub NoneMeets : List Axiom → List Request → List Changed → Type 0
NoneMeets axioms requests changed = (b c : ℕ) → ¬ MeetsAt axioms requests changed b c

-- the entry stands in the way at these places: it replaces the ontology, at places 0 and 0, or its fact there meets the request there
abbrev pub StopsAt : List Axiom → List Request → Entry → ℕ → ℕ → Type 0
StopsAt axioms requests e place request = (IsReplacing e × (place ≡ 0) × (request ≡ 0)) ⊎ MeetsAt axioms requests e.changed place request

-- the entry stands in the way, and these are the first places
pub record IsFirstStop (axioms : List Axiom) (requests : List Request) (e : Entry) (place request : ℕ) : Type 0 where
  pub here : StopsAt axioms requests e place request
  pub least : (b c : ℕ) → IsEarlier b c place request → ¬ StopsAt axioms requests e b c

-- the entry doesn't stand in the way
abbrev pub LetsPass : List Axiom → List Request → Entry → Type 0
LetsPass axioms requests e = (b c : ℕ) → ¬ StopsAt axioms requests e b c

-- no changed fact has a clash by itself
abbrev pub AreSound : List Axiom → List Changed → Type 0
AreSound axioms changed = (c : Changed) → Contains changed c → ¬ HasClash axioms (c.fact ∷ [])

-- no fact that was changed after the base and before the ontology was replaced has a clash by itself
abbrev pub AreSoundAfter : List Axiom → List Entry → ℕ → Type 0
AreSoundAfter axioms entries base = (n : ℕ) (e : Entry) → base < n → IsUnreplaced entries base n → IsEntry entries n e → ¬ IsReplacing e → AreSound axioms e.changed
