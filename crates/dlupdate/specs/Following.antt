-- Updates taken one after another.
use Rattle.std.specs.Prelude.{◌≡◌, ℕ, Bool, true, false, List, ◌∷◌, Option, IfSome}
use Rattle.dl_base.specs.declared.statements.Fact.{Fact}
use Rattle.dl_base.specs.Ontologies.{Theory}
use Rattle.transaction.specs.Worlds.{State}
use Rattle.update_read.specs.declared.reading.ReadUpdate.{ReadUpdate}
use Rattle.dlupdate.specs.declared.reports.Stop.{Stop}
use Rattle.dlupdate.specs.Committing.{StandsAt}
use Rattle.dlupdate.specs.Runs.{Contents, GivesUpdate, Takes, Follows, IsStopped, no_head, numbered}
use Rattle.dlupdate.specs.Texts as text

-- what each update prints first
abbrev pub head_of : Bool → ℕ → List ℕ
head_of true = numbered
head_of false = no_head

module _ (contents : Option Contents) (theory : Theory) (head : ℕ → List ℕ) (number : ℕ) (stored : List Fact) (name : List ℕ) where
  -- the file's update is taken, and this is what it prints
  abbrev pub IsPart : State → List ℕ → Type 0
  IsPart t part = (update : ReadUpdate) × (lost next : List Fact) × IfSome contents (λ c. GivesUpdate c theory name update)
      × Takes theory stored update lost next × StandsAt t theory next × (part ≡ text.updated (head number) theory update.skipped lost)

  -- the run ends with the file's update, whatever updates were to come
  abbrev pub EndsHere : Stop → Type 0
  EndsHere s = (names : List (List ℕ)) → IsStopped contents (λ c. Follows c theory head number stored (name ∷ names)) s
