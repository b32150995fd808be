use Rattle.std.proofs.Common.{List, ℕ, Some, subst}
use Rattle.std.specs.Prelude.{Ok, Err}
use Rattle.dl_base.specs.declared.statements.Fact.{Fact}
use Rattle.dl_base.specs.Ontologies.{Theory}
use Rattle.loading.specs.Loading.{Loads}
use Rattle.dlupdate.specs.Opening.{IsUnloaded}
use Rattle.dlupdate.proofs.OpeningLaws.{base_of, no_ontology_stop, no_facts_stop, loads_ok, loads_stop, unloaded_only}
use Rattle.dlupdate.proofs.opening.opened_with.Goals as goal

pub returns-in-Err-clause-stopped : goal.returns-in-Err-clause-stopped
returns-in-Err-clause-stopped g c = no_ontology_stop (g.F.Files.contents c.args.files.now) c.args.ontology.now (Some c.args.facts.now) c.in-Err.stop c.in-Err.ensures.stopped

pub returns-in-Err-read_file-clause-stopped : goal.returns-in-Err-read_file-clause-stopped
returns-in-Err-read_file-clause-stopped g c =
    let stopped = rw c.in-Ok.ensures.same at c.in-Err-read_file.ensures.stopped in
    no_facts_stop (g.F.Files.contents c.args.files.now) c.args.ontology.now c.args.facts.now c.in-Ok.read.ontology c.in-Ok.read.facts.items c.in-Ok.read.skipped c.in-Err-read_file.stop c.in-Ok.ensures.ok stopped

pub returns-in-Ok-load_over-clause-ok : goal.returns-in-Ok-load_over-clause-ok
returns-in-Ok-load_over-clause-ok g c =
    let has = rw c.in-Ok.ensures.same at c.in-Ok-read_file.ensures.ok in
    let bytes = subst (λ (bs : List ℕ). Loads c.in-Ok.read.ontology c.as_slice.result.now c.in-Ok.read.skipped bs (Ok c.in-Ok-load_over.it)) c.as_slice-2.ensures.value c.in-Ok-load_over.ensures.loads in
    let loads = subst (λ (fs : List Fact). Loads c.in-Ok.read.ontology fs c.in-Ok.read.skipped c.in-Ok-read_file.bytes.items (Ok c.in-Ok-load_over.it)) c.as_slice.ensures.value bytes in
    loads_ok (g.F.Files.contents c.args.files.now) c.args.ontology.now c.args.facts.now c.in-Ok.read.ontology c.in-Ok.read.facts.items loads.0 c.in-Ok.read.skipped loads.1 c.in-Ok-read_file.bytes.items c.in-Ok-load_over.it c.in-Ok.ensures.ok has loads.2 loads.3

pub returns-in-Ok-load_over-clause-base : goal.returns-in-Ok-load_over-clause-base
returns-in-Ok-load_over-clause-base g c =
    let loads = c.in-Ok-load_over.ensures.loads in
    base_of c.in-Ok.read.ontology loads.0 loads.1 c.in-Ok-load_over.it loads.3 c.in-Ok-load_over.ensures.known

pub returns-clause-stopped : goal.returns-clause-stopped
returns-clause-stopped g c =
    let has = rw c.in-Ok.ensures.same at c.in-Ok-read_file.ensures.ok in
    let bytes = subst (λ (bs : List ℕ). Loads c.in-Ok.read.ontology c.as_slice.result.now c.in-Ok.read.skipped bs (Err c.in-Err-load_over.refusal)) c.as_slice-2.ensures.value c.in-Err-load_over.ensures.loads in
    let loads = subst (λ (fs : List Fact). Loads c.in-Ok.read.ontology fs c.in-Ok.read.skipped c.in-Ok-read_file.bytes.items (Err c.in-Err-load_over.refusal)) c.as_slice.ensures.value bytes in
    loads_stop (g.F.Files.contents c.args.files.now) c.args.ontology.now c.args.facts.now c.in-Ok.read.ontology c.in-Ok.read.facts.items c.in-Ok.read.skipped c.in-Ok-read_file.bytes.items c.in-Err-load_over.refusal c.unloaded.result c.in-Ok.ensures.ok has loads
    (subst (λ (t : Theory). IsUnloaded t c.args.facts.now c.in-Err-load_over.refusal c.unloaded.result) c.in_ok-kept.ensures c.unloaded.ensures)

pub returns-clause-failed : goal.returns-clause-failed
returns-clause-failed g c = unloaded_only _ c.in_ok-kept.kept c.args.facts.now c.in-Err-load_over.refusal c.unloaded.result c.unloaded.ensures
