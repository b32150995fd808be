-- What contracts see of a transaction, and of what it is taken apart into.
use Rattle.std.specs.Prelude.{◌≡◌, ◌<◌, ◌≤◌, ℕ, List, [], ◌∷◌, ◌++◌, All, Contains, length}
use Rattle.dl_base.specs.Clash.{IsConsistent}
use Rattle.dl_base.specs.declared.axioms.Axiom.{Axiom}
use Rattle.dl_base.specs.declared.requests.Request.{Request}
use Rattle.dl_base.specs.declared.requests.Request.TheVariants.{Change}
use Rattle.dl_base.specs.declared.statements.Fact.{Fact}
use Rattle.dl_base.specs.Ontologies.{Theory, Knows, KnowsRequest}
use Rattle.dl_base.specs.Transactions.{IsWell, Runs, Serves, StaysPut, StaysTaken}
use Rattle.dl_base.specs.Updates.{Lists}
use Rattle.dl_base.specs.Validity.{IsOntology}
use Rattle.read_patterns.specs.declared.parts.Parts.{Parts}

-- a transaction: its ontology, the number and the facts of its base, its requests, and the facts that are stored after them
pub record Open : Type 0 where
  pub ontology : Theory
  pub number : ℕ
  pub base : List Fact
  pub requests : List Request
  pub stored : List Fact

-- what remains of a transaction beside its parts: its ontology, the facts of its base, and the facts stored after its requests
pub record Rest : Type 0 where
  pub ontology : Theory
  pub base : List Fact
  pub stored : List Fact

-- in order, the requests make the stored facts of the base, put these facts for good, and take those
pub record Makes (axioms : List Axiom) (base : List Fact) (requests : List Request) (stored put taken : List Fact) : Type 0 where
  pub replies : List (List Fact)
  pub run : Runs axioms base requests replies stored
  pub stays_put : Lists (StaysPut axioms run) put
  pub stays_taken : Lists (StaysTaken axioms run) taken

-- at most 10,000 requests, which the ontology knows and which are well-formed, and what they make is consistent and known
pub record IsOpen (theory : Theory) (base : List Fact) (requests : List Request) (stored put taken : List Fact) : Type 0 where
  pub ontology : IsOntology theory
  pub few : length requests ≤ 10000
  pub known : All (KnowsRequest theory) requests
  pub well : All (IsWell theory.axioms) requests
  pub makes : Makes theory.axioms base requests stored put taken
  pub consistent : IsConsistent theory.axioms stored
  pub known_facts : (f : Fact) → Contains stored f → Knows theory f

-- the rest and the parts are of one transaction
abbrev pub BelongTo : Rest → Parts → Type 0
BelongTo rest parts = IsOpen rest.ontology rest.base parts.recorded rest.stored parts.added.items parts.removed.items

-- the reply goes on with each run so far
abbrev pub GoesOn : Open → List Fact → Open → Type 0
GoesOn old reply new = (replies : List (List Fact)) → Runs old.ontology.axioms old.base old.requests replies old.stored
    → Runs old.ontology.axioms old.base new.requests (replies ++ reply ∷ []) new.stored

-- the request is served from the stored facts, and is recorded
pub record IsServed (old : Open) (request : Request) (reply : List Fact) (new : Open) : Type 0 where
  pub room : length old.requests < 10000
  pub ran : (replies : List (List Fact)) × Runs old.ontology.axioms old.base old.requests replies old.stored
  pub well : IsWell old.ontology.axioms request
  pub serves : Serves old.ontology.axioms request old.stored reply new.stored
  pub goes_on : GoesOn old reply new
  pub recorded : new ≡ record { ontology = old.ontology; number = old.number; base = old.base; requests = old.requests ++ request ∷ []; stored = new.stored }

-- the request is a change
abbrev pub IsChange : Request → Type 0
IsChange r = (inserts deletes : List Fact) × (r ≡ Change inserts deletes)
