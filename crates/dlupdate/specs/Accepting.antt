-- Which runs are accepted: those that nothing but the outside, or want of memory, keeps from being done.
use Rattle.std.specs.Prelude.{◌≡◌, ◌⊎◌, ℕ, List, Option, Some, None, Contains}
use Rattle.dl_base.specs.declared.statements.Fact.{Fact}
use Rattle.dl_base.specs.Clash.{IsConsistent}
use Rattle.dl_base.specs.Ontologies.{Theory}
use Rattle.dl_base.specs.Updates.{IsWellFormed}
use Rattle.update_read.specs.declared.reading.ReadUpdate.{ReadUpdate}
use Rattle.dlupdate.specs.Commands.{Check, Apply, Script, Says}
use Rattle.dlupdate.specs.Runs.{Contents, Opens, GivesUpdate}

-- the files are read, and their facts are consistent
abbrev pub OpensWell : Contents → List ℕ → Option (List ℕ) → Theory → Type 0
OpensWell contents ontology facts theory = (all : List Fact) × (skipped : ℕ) × Opens contents ontology facts theory all skipped × IsConsistent theory.axioms all

-- each of these files is an update that doesn't contradict itself
abbrev pub AreUpdates : Contents → Theory → List (List ℕ) → Type 0
AreUpdates contents theory names = (name : List ℕ) → Contains names name → (update : ReadUpdate) × GivesUpdate contents theory name update × IsWellFormed theory.axioms update.inserts update.deletes

-- the words are a command, its files are read, the opening facts are consistent, and no update contradicts itself
pub data IsAccepted (contents : Contents) (words : List (List ℕ)) : Type 0 where
  check : (ontology : List ℕ) (facts : Option (List ℕ)) (theory : Theory) → Says words (Check ontology facts) → OpensWell contents ontology facts theory → IsAccepted contents words
  apply : (ontology : List ℕ) (updates : List (List ℕ)) (theory : Theory) → Says words (Apply ontology updates) → OpensWell contents ontology None theory
      → AreUpdates contents theory updates → IsAccepted contents words
  script : (ontology facts : List ℕ) (updates : List (List ℕ)) (theory : Theory) → Says words (Script ontology facts updates) → OpensWell contents ontology (Some facts) theory
      → AreUpdates contents theory updates → IsAccepted contents words

-- accepted words and files are done with, or memory was wanting, unless the outside failed
abbrev pub IsDone : Option Contents → Type 0 → Type 0 → List (List ℕ) → ℕ → Type 0
IsDone contents files_rose out_rose words status = (told : Contents) → contents ≡ Some told → IsAccepted told words → ¬ files_rose → ¬ out_rose → (status ≡ 0) ⊎ (status ≡ 8)
