use Rattle.std.proofs.Common.{List, ℕ, take}
use Rattle.dl_base.specs.Clash.{AttrReaches}
use Rattle.dl_base.specs.declared.terms.Term.{Term}
use Rattle.tbox_closure.proofs.LoopLaws.{None}
use Rattle.tbox_closure.proofs.range_clashes.first_range.Given as goal

abbrev pub invariant-loop-range : goal.invariant-loop-range
invariant-loop-range l = None (λ (r : Term × List ℕ). AttrReaches l.tables.axioms l.attr r.0) (take l.range-index l.ranges)
