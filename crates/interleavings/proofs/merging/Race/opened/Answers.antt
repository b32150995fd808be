use Rattle.std.proofs.Common.{List, sym, ◌∙◌, subst}
use Rattle.dl_base.specs.Clash.{IsConsistent}
use Rattle.dl_base.specs.Ontologies.{Theory}
use Rattle.dl_base.specs.declared.statements.Fact.{Fact}
use Rattle.interleavings.proofs.merging.Race.opened.Goals as goal

pub start-requires-2-clause-consistent : goal.start-requires-2-clause-consistent
start-requires-2-clause-consistent c =
    subst (λ (t : Theory). IsConsistent t.axioms c.in_ok-facts.facts.items) (c.deref-2.ensures ∙ sym c.in-Ok.ensures)
    (subst (λ (fs : List Fact). IsConsistent c.deref-2.result.now.axioms fs) c.as_slice-3.ensures.value c.in_default.ensures.consistent)
