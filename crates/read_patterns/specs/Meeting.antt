-- Which of some requests a fact meets first.
use Rattle.std.specs.Prelude.{◌≡◌, ℕ, ◌<◌, List, Contains, Some, slice_get}
use Rattle.dl_base.specs.declared.axioms.Axiom.{Axiom}
use Rattle.dl_base.specs.declared.requests.Request.{Request}
use Rattle.dl_base.specs.declared.statements.Fact.{Fact}
use Rattle.dl_base.specs.Transactions.{IsMetBy}

-- the fact meets the request at this place
abbrev pub MeetsAt : List Axiom → List Request → Fact → ℕ → Type 0
MeetsAt axioms requests f place = (r : Request) × (slice_get requests place ≡ Some r) × IsMetBy axioms f r

-- the fact meets the request at this place, and none before it
pub record IsFirst (axioms : List Axiom) (requests : List Request) (f : Fact) (place : ℕ) : Type 0 where
  pub here : MeetsAt axioms requests f place
  pub least : (k : ℕ) → k < place → ¬ MeetsAt axioms requests f k

-- the fact meets none of the requests
abbrev pub MeetsNone : List Axiom → List Request → Fact → Type 0
MeetsNone axioms requests f = (r : Request) → Contains requests r → ¬ IsMetBy axioms f r
