use Rattle.std.proofs.Common.{List, sym, ◌∙◌, subst}
use Rattle.dl_base.specs.FactOrder.{AreSorted}
use Rattle.dl_base.specs.declared.statements.Fact.{Fact}
use Rattle.fact_delta.specs.Deltas.{standing, Fits, IsApplied}
use Rattle.fact_index.proofs.WholeLaws.{fits_marked, applied_changed}
use Rattle.fact_index.proofs.whole.changed_delta.Goals as goal

pub with-requires-clause-same : goal.with-requires-clause-same
with-requires-clause-same c = c.in_ok-base.ensures ∙ c.base.ensures

pub with-requires-clause-removed : goal.with-requires-clause-removed
with-requires-clause-removed c = subst AreSorted (sym c.as_slice.ensures.value) c.in_ok-removed.ensures.sorted

pub with-requires-clause-added : goal.with-requires-clause-added
with-requires-clause-added c = subst AreSorted (sym c.as_slice-2.ensures.value) c.in_ok-added.ensures.sorted

pub with-requires-clause-fits : goal.with-requires-clause-fits
with-requires-clause-fits c = rw (c.as_slice.ensures.value, c.as_slice-2.ensures.value)
    (fits_marked (standing c.args.delta.now) c.args.changed.now c.in_ok-removed.removed.items c.in_ok-added.added.items c.in_ok-removed.ensures.marked c.in_ok-added.ensures.marked c.requires)

pub returns-clause-changed : goal.returns-clause-changed
returns-clause-changed c =
    applied_changed (standing c.args.delta.now) c.args.changed.now c.in_ok-removed.removed.items c.in_ok-added.added.items c.in_ok-removed.ensures.marked c.in_ok-added.ensures.marked (standing c.in_ok-next.next)
    (rw (c.as_slice.ensures.value, c.as_slice-2.ensures.value) at c.in_ok-next.ensures.ok)
