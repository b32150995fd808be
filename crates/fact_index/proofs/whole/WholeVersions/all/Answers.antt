use Rattle.std.proofs.Common.{sym, ◌∙◌, ap, subst}
use Rattle.dl_base.specs.FactOrder.{AreSorted}
use Rattle.fact_delta.specs.Deltas.{standing}
use Rattle.fact_index.proofs.whole.WholeVersions.all.Goals as goal

pub returns-clause-all : goal.returns-clause-all
returns-clause-all c = c.in_ok-all.ensures ∙ ap standing c.deref.ensures ∙ c.self.view_is

pub returns-clause-sorted : goal.returns-clause-sorted
returns-clause-sorted c = subst AreSorted c.self.view_is c.self.invariant.sorted

pub returns-in_err-all-clause-sorted : goal.returns-in_err-all-clause-sorted
returns-in_err-all-clause-sorted c = subst AreSorted c.self.view_is c.self.invariant.sorted
