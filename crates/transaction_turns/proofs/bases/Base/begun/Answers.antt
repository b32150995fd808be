use Rattle.std.proofs.Common.{List, sym, subst}
use Rattle.std.specs.Arc.{arc_value}
use Rattle.dl_base.specs.Clash.{IsConsistent}
use Rattle.dl_base.specs.Ontologies.{Theory}
use Rattle.dl_base.specs.declared.statements.Fact.{Fact}
use Rattle.transaction_turns.proofs.bases.Base.begun.Goals as goal

pub at-requires-clause-consistent : goal.at-requires-clause-consistent
at-requires-clause-consistent g c =
    subst (λ (t : Theory). IsConsistent t.axioms (g.V.FactSet.facts c.in_ok-version.version)) (sym c.in_ok-rules.ensures)
    (subst (λ (fs : List Fact). IsConsistent (arc_value c.self.inside.rules).axioms fs) (sym c.in_ok-version.ensures.same) c.self.invariant.0)
