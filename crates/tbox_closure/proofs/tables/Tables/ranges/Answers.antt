use Rattle.std.proofs.Common.{List, ℕ, sym, subst}
use Rattle.dl_base.specs.Ontologies.{Theory}
use Rattle.dl_base.specs.declared.terms.Term.{Term}
use Rattle.tbox_closure.specs.Tables.{AreRanges}
use Rattle.tbox_closure.proofs.tables.Tables.ranges.Goals as goal

pub returns : goal.returns
returns c = subst (λ (t : Theory). AreRanges t.axioms c.as_slice.result.now) c.self.view_is
    (subst (λ (xs : List (Term × List ℕ)). AreRanges c.self.inside.ontology.axioms xs) (sym c.as_slice.ensures.value) c.self.invariant.ranges)
