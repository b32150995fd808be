-- What is opened, and why not.
use Rattle.std.specs.Prelude.{◌≡◌, ◌⊎◌, ◌+◌, ℕ, List, [], ◌∷◌, ◌++◌, Contains, Result, Ok, Err, Some, slice_get}
use Rattle.std.specs.Arc.{arc_value}
use Rattle.dl_base.specs.declared.axioms.Axiom.{Axiom}
use Rattle.dl_base.specs.declared.statements.Fact.{Fact}
use Rattle.dl_base.specs.Clash.{IsConsistent}
use Rattle.dl_base.specs.IllFormed.{NamesAlone, NamesPair}
use Rattle.dl_base.specs.Ontologies.{Theory}
use Rattle.dl_base.specs.Repeats.{IsOnce}
use Rattle.dl_text.specs.declared.refusals.ReadRefusal.TheVariants.{Refused, OutOfMemory}
use Rattle.loading.specs.declared.opening.Opened.{Opened}
use Rattle.loading.specs.declared.refusals.LoadRefusal.{LoadRefusal}
use Rattle.loading.specs.declared.refusals.LoadRefusal.TheVariants as refusal
use Rattle.ntriples.specs.Files.{Reads}
use Rattle.ntriples.specs.declared.files.ReadFacts.{ReadFacts}
use Rattle.owl_read.specs.Documents.{Reads as ReadsOntology}

-- the fact is known and nothing changes, or it isn't and comes last
abbrev pub IsPushedUnless : List Fact → List Fact → Fact → List Fact → Type 0
IsPushedUnless known old f new = (Contains known f × (new ≡ old)) ⊎ ((¬ Contains known f) × (new ≡ old ++ f ∷ []))

-- the facts are open under the ontology: they are consistent, and so many triples were skipped
pub record IsOpened (theory : Theory) (facts : List Fact) (skipped : ℕ) (it : Opened) : Type 0 where
  pub ontology : it.ontology ≡ theory
  pub rules : arc_value it.rules ≡ theory
  pub facts_are : it.facts.items ≡ facts
  pub skipped_are : it.skipped ≡ skipped
  pub consistent : IsConsistent theory.axioms facts

-- the first fact that clashes by itself, or else the first two that clash
abbrev pub Contradicts : List Axiom → List Fact → LoadRefusal → Type 0
Contradicts axioms facts (refusal.Alone f) = (i : ℕ) × (slice_get facts i ≡ Some f) × NamesAlone axioms facts i
Contradicts axioms facts (refusal.Pair f g) = (i j : ℕ) × (slice_get facts i ≡ Some f) × (slice_get facts j ≡ Some g) × NamesPair axioms facts i j
Contradicts axioms facts refusal.OutOfMemory = Unit {0}
Contradicts axioms facts (refusal.Ontology r) = ⊥
Contradicts axioms facts (refusal.Facts r) = ⊥

-- what opening these facts answers
abbrev pub Opens : Theory → List Fact → ℕ → Result Opened LoadRefusal → Type 0
Opens theory facts skipped (Ok it) = IsOpened theory facts skipped it
Opens theory facts skipped (Err r) = Contradicts theory.axioms facts r

-- the file gives facts beside the given ones: all together without repeats, and how many triples were skipped in all
abbrev pub Gathers : Theory → List Fact → ℕ → List ℕ → List Fact → ℕ → Type 0
Gathers theory given before bytes all skipped = (found : ReadFacts) × Reads theory bytes (Ok found) × IsOnce (given ++ found.facts) all × (skipped ≡ before + found.skipped)

-- what opening given facts with those of a file answers: the file is refused, or what it gives is opened
abbrev pub Loads : Theory → List Fact → ℕ → List ℕ → Result Opened LoadRefusal → Type 0
Loads theory given before bytes (Ok it) = (all : List Fact) × (skipped : ℕ) × Gathers theory given before bytes all skipped × IsOpened theory all skipped it
Loads theory given before bytes (Err (refusal.Facts (Refused line kind))) = Reads theory bytes (Err (Refused line kind))
Loads theory given before bytes (Err (refusal.Facts OutOfMemory)) = ⊥
Loads theory given before bytes (Err (refusal.Ontology r)) = ⊥
Loads theory given before bytes (Err (refusal.Alone f)) = (all : List Fact) × (skipped : ℕ) × Gathers theory given before bytes all skipped × Contradicts theory.axioms all (refusal.Alone f)
Loads theory given before bytes (Err (refusal.Pair f g)) = (all : List Fact) × (skipped : ℕ) × Gathers theory given before bytes all skipped × Contradicts theory.axioms all (refusal.Pair f g)
Loads theory given before bytes (Err refusal.OutOfMemory) = Unit {0}

-- the ontology's text gives assertions, and opening them with the file answers this
abbrev pub LoadsFrom : List ℕ → List ℕ → Result Opened LoadRefusal → Type 0
LoadsFrom ontology bytes answer = (theory : Theory) × (given : List Fact) × (before : ℕ) × ReadsOntology ontology (Ok (theory, given, before)) × Loads theory given before bytes answer

-- what opening an ontology's text with a file of facts answers: the ontology is refused, or what both give is opened
abbrev pub LoadsBoth : List ℕ → List ℕ → Result Opened LoadRefusal → Type 0
LoadsBoth ontology bytes (Ok it) = LoadsFrom ontology bytes (Ok it)
LoadsBoth ontology bytes (Err (refusal.Ontology (Refused line kind))) = ReadsOntology ontology (Err (Refused line kind))
LoadsBoth ontology bytes (Err (refusal.Ontology OutOfMemory)) = ⊥
LoadsBoth ontology bytes (Err (refusal.Facts r)) = LoadsFrom ontology bytes (Err (refusal.Facts r))
LoadsBoth ontology bytes (Err (refusal.Alone f)) = LoadsFrom ontology bytes (Err (refusal.Alone f))
LoadsBoth ontology bytes (Err (refusal.Pair f g)) = LoadsFrom ontology bytes (Err (refusal.Pair f g))
LoadsBoth ontology bytes (Err refusal.OutOfMemory) = Unit {0}
