use Rattle.std.proofs.Common.{List, subst}
use Rattle.std.specs.Arc.{arc_value}
use Rattle.dl_base.specs.Clash.{IsConsistent}
use Rattle.dl_base.specs.Ontologies.{Theory}
use Rattle.dl_base.specs.declared.statements.Fact.{Fact}
use Rattle.optimistic_commit.proofs.samples.opened.Goals as goal

pub start-requires-clause-consistent : goal.start-requires-clause-consistent
start-requires-clause-consistent g c =
    subst (λ (fs : List Fact). IsConsistent (arc_value c.in_ok-rules.rules).axioms fs) c.as_slice-2.ensures.same
    (subst (λ (t : Theory). IsConsistent t.axioms c.as_slice-2.result.now) c.deref-2.ensures c.in_default.ensures.consistent)
