-- What committing one update does to the core.
use Rattle.std.specs.Prelude.{◌≡◌, List, [], Result, Ok, Err}
use Rattle.dl_base.specs.declared.statements.Fact.{Fact}
use Rattle.dl_base.specs.declared.requests.Facts.{Facts}
use Rattle.dl_base.specs.Histories.{IsVersion, in_force}
use Rattle.dl_base.specs.Ontologies.{Theory}
use Rattle.dl_base.specs.Updates.{Lists, IsStored, IsLost, IsWellFormed}
use Rattle.transaction.specs.Worlds.{State}
use Rattle.update_engine.specs.declared.judging.IllFormed.{IllFormed}
use Rattle.update_engine.specs.Judging.{IsNamed}

-- the ontology in force
abbrev pub current : State → Theory
current s = in_force s.opening s.entries

-- the core stands at these facts, with this ontology in force and no transaction begun
abbrev pub StandsAt : State → Theory → List Fact → Type 0
StandsAt s theory stored = (current s ≡ theory) × (s.begun ≡ []) × IsVersion s.facts s.entries stored

-- the update is taken, or it contradicts itself
abbrev pub Commits : Theory → List Fact → List Fact → List Fact → State → Result (List Fact) IllFormed → Type 0
Commits theory stored inserts deletes t (Ok lost) = (next : List Fact) × StandsAt t theory next × IsWellFormed theory.axioms inserts deletes
    × Lists (IsStored theory.axioms stored inserts deletes) next × Lists (IsLost theory.axioms stored next) lost
Commits theory stored inserts deletes t (Err name) = IsNamed theory.axioms inserts deletes name
