use Rattle.std.proofs.Common.{List, sym, subst}
use Rattle.std.specs.Prelude.{Ok}
use Rattle.dl_base.specs.declared.statements.Fact.{Fact}
use Rattle.owl_read.specs.Documents.{Reads}
use Rattle.loading.proofs.WholeLaws.{loads_both}
use Rattle.loading.proofs.whole.load.Goals as goal

pub returns-clause-loads : goal.returns-clause-loads
returns-clause-loads c =
    loads_both c.args.ontology.now c.args.facts.now c.in-Ok.read.ontology c.as_slice.result.now c.in-Ok.read.skipped c.load_over.result
    (subst (λ (fs : List Fact). Reads c.args.ontology.now (Ok (c.in-Ok.read.ontology, fs, c.in-Ok.read.skipped))) (sym c.as_slice.ensures.value) c.in-Ok.ensures.read) c.load_over.ensures.loads
