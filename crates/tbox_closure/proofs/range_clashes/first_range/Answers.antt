use Rattle.std.proofs.Common.{◌≡◌, ℕ, List, length, arith}
use Rattle.dl_base.specs.Clash.{AttrReaches}
use Rattle.dl_base.specs.declared.terms.Term.{Term}
use Rattle.tbox_closure.proofs.LoopLaws.{none_at_end}
use Rattle.tbox_closure.proofs.RangeLaws.{range}
use Rattle.tbox_closure.proofs.range_clashes.first_range.Goals as goal

pub returns : goal.returns
returns c d (v, m, h) =
    let all : c.loop-range.range-index ≡ length c.args.ranges.now = omega arith in
    none_at_end (λ (r : Term × List ℕ). AttrReaches c.args.tables.now.axioms c.args.attr r.0) c.args.ranges.now c.loop-range.range-index all c.loop-range.invariant (range v d, m, h)
