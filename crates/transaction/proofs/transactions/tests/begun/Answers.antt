use Rattle.std.proofs.Common.{List, sym, ◌∙◌, subst}
use Rattle.std.specs.Prelude.{Contains}
use Rattle.dl_base.specs.Clash.{IsConsistent}
use Rattle.dl_base.specs.declared.statements.Fact.{Fact}
use Rattle.dl_base.specs.Ontologies.{Theory, Knows}
use Rattle.transaction.proofs.transactions.tests.begun.Goals as goal

pub at-requires-clause-consistent : goal.at-requires-clause-consistent
at-requires-clause-consistent g c =
    subst (λ (t : Theory). IsConsistent t.axioms c.in_ok-version.version) (sym c.in_ok-new.ensures.ok)
    (subst (λ (fs : List Fact). IsConsistent c.in_ok-rules.rules.axioms fs) c.as_slice-2.ensures.same c.in_default.ensures.consistent)
