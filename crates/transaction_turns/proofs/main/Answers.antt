use Rattle.std.proofs.Common.{List, sym, subst}
use Rattle.dl_base.specs.Clash.{IsConsistent}
use Rattle.dl_base.specs.Ontologies.{Theory}
use Rattle.dl_base.specs.declared.statements.Fact.{Fact}
use Rattle.transaction_turns.proofs.main.Goals as goal

pub of-requires-clause-consistent : goal.of-requires-clause-consistent
of-requires-clause-consistent c =
    let (theory, given, before, reads, (all, skipped, gathers, opened)) = c.in-Ok-load.ensures.loads in
    subst (λ (t : Theory). IsConsistent t.axioms c.in-Ok-load.opened.facts.items) (sym opened.ontology)
    (subst (λ (fs : List Fact). IsConsistent theory.axioms fs) (sym opened.facts_are) opened.consistent)
