-- What opening two texts answers.
use Rattle.std.proofs.Common.{ℕ, List}
use Rattle.std.specs.Prelude.{Result, Ok, Err}
use Rattle.dl_base.specs.declared.statements.Fact.{Fact}
use Rattle.dl_base.specs.Ontologies.{Theory}
use Rattle.loading.specs.Loading.{Loads, LoadsBoth}
use Rattle.loading.specs.declared.opening.Opened.{Opened}
use Rattle.loading.specs.declared.refusals.LoadRefusal.{LoadRefusal}
use Rattle.loading.specs.declared.refusals.LoadRefusal.TheVariants as refusal
use Rattle.owl_read.specs.Documents.{Reads as ReadsOntology}

-- what opening an ontology's assertions with a file answers is what opening both texts answers
pub loads_both : (ontology bytes : List ℕ) (theory : Theory) (given : List Fact) (before : ℕ) (answer : Result Opened LoadRefusal) → ReadsOntology ontology (Ok (theory, given, before))
    → Loads theory given before bytes answer → LoadsBoth ontology bytes answer
loads_both ontology bytes theory given before (Ok it) reads h = (theory, given, before, reads, h)
loads_both ontology bytes theory given before (Err (refusal.Ontology why)) reads h = absurd h
loads_both ontology bytes theory given before (Err (refusal.Facts why)) reads h = (theory, given, before, reads, h)
loads_both ontology bytes theory given before (Err (refusal.Alone f)) reads h = (theory, given, before, reads, h)
loads_both ontology bytes theory given before (Err (refusal.Pair f g)) reads h = (theory, given, before, reads, h)
loads_both ontology bytes theory given before (Err refusal.OutOfMemory) reads h = tt
