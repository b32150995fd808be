use Rattle.std.proofs.Common.{List, sym, subst}
use Rattle.dl_base.specs.Clash.{IsConsistent}
use Rattle.dl_base.specs.declared.statements.Fact.{Fact}
use Rattle.dl_base.specs.Ontologies.{Theory}
use Rattle.transaction.proofs.worlds.steps.opened.Goals as goal

pub start-requires-clause-consistent : goal.start-requires-clause-consistent
start-requires-clause-consistent g c =
    subst (λ (t : Theory). IsConsistent t.axioms c.in_ok-facts.facts.items) (sym c.in_ok-new.ensures.ok)
    (subst (λ (fs : List Fact). IsConsistent c.in_ok-rules.rules.axioms fs) c.as_slice-2.ensures.value c.in_default.ensures.consistent)
