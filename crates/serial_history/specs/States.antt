-- What contracts see of a state, and what it keeps.
use Rattle.std.specs.Prelude.{◌≡◌, ℕ, ◌≤◌, ◌<◌, List, [], ◌∷◌, ◌++◌, All, length, take}
use Rattle.dl_base.specs.declared.requests.Entry.{Entry}
use Rattle.dl_base.specs.declared.requests.Request.{Request}
use Rattle.dl_base.specs.declared.statements.Fact.{Fact}
use Rattle.dl_base.specs.Histories.{HasChange, IsLegal, IsVersion, in_force_at, or_before, replacement}
use Rattle.dl_base.specs.Ontologies.{Theory, KnowsRequest}
use Rattle.dl_base.specs.Transactions.{IsAfter, IsWell}
use Rattle.read_patterns.specs.declared.parts.Parts.{Parts}
use Rattle.read_patterns.specs.Effects.{AreEffects}

-- the opening ontology and facts, how many entries there may be, the entries, and the layers of the version that stands
pub record Seen : Type 0 where
  pub opening : Theory
  pub facts : List Fact
  pub limit : ℕ
  pub entries : List Entry
  pub layers : List (List Fact)

-- the opening ontology, and the entries
pub record Logged : Type 0 where
  pub opening : Theory
  pub entries : List Entry

-- the ontologies in force after each of the entries
abbrev pub in_force_later : Theory → List Entry → List Theory
in_force_later opening [] = []
in_force_later opening (e ∷ entries) = or_before (replacement e) opening ∷ in_force_later (or_before (replacement e) opening) entries

-- all versions of the history, from the opening facts on
abbrev pub AreVersions : List Fact → List Entry → List (List Fact) → Type 0
AreVersions facts [] versions = versions ≡ facts ∷ []
AreVersions facts (e ∷ entries) [] = ⊥
AreVersions facts (e ∷ entries) (v ∷ versions) = (v ≡ facts) × ((next : List Fact) × IsAfter facts e.changed next × AreVersions next entries versions)

-- the layers are the last versions of the history, in order
abbrev pub AreLastVersions : List Fact → List Entry → List (List Fact) → Type 0
AreLastVersions facts entries layers = (dropped : List (List Fact)) × AreVersions facts entries (dropped ++ layers)

-- the entries are a legal history within the limit, the version is what they make, and its layers are the last versions
pub record IsKept (opening : Theory) (facts : List Fact) (limit : ℕ) (entries : List Entry) (version : List Fact) (layers : List (List Fact)) : Type 0 where
  pub legal : IsLegal opening facts entries
  pub within : length entries ≤ limit
  pub stands : IsVersion facts entries version
  pub layered : AreLastVersions facts entries layers

-- the requests of a transaction that began at the base: at least one and at most 10,000, a change among them, and each well-formed and known
-- under the ontology in force there
pub record AreAsked (s : Seen) (base : ℕ) (requests : List Request) : Type 0 where
  pub some : (0 < length requests) × (length requests ≤ 10000)
  pub change : HasChange requests
  pub well : All (IsWell (in_force_at s.opening s.entries base).axioms) requests
  pub known : All (KnowsRequest (in_force_at s.opening s.entries base)) requests

-- the facts that the parts put and take are those of their requests from the version of their base
abbrev pub AreTaken : Seen → Parts → Type 0
AreTaken s parts = (old : List Fact) × IsVersion s.facts (take parts.base s.entries) old
    × AreEffects (in_force_at s.opening s.entries parts.base).axioms old parts.recorded parts.added.items parts.removed.items

-- the parts are those of a transaction that began at a version of this history
pub record IsReady (s : Seen) (parts : Parts) : Type 0 where
  pub base : parts.base ≤ length s.entries
  pub asked : AreAsked s parts.base parts.recorded
  pub taken : AreTaken s parts
