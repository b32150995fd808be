use Rattle.std.proofs.Common.{◌≡◌, ℕ, List, length, arith}
use Rattle.std.specs.Prelude.{◌≢◌}
use Rattle.std.proofs.lemmas.Bool.{false≢true}
use Rattle.dl_base.specs.Clash.{AttrReaches}
use Rattle.dl_base.specs.declared.terms.Term.{Term}
use Rattle.tbox_closure.proofs.LoopLaws.{none_at_end}
use Rattle.tbox_closure.proofs.RangeLaws.{range}
use Rattle.tbox_closure.proofs.range_clashes.is_other_among.Goals as goal

pub returns : goal.returns
returns c =
    let all : c.loop-range.range-index ≡ length c.args.ranges.now = omega arith in (
      λ h. absurd (false≢true h),
      λ (d, (v, m, h), ne). absurd (none_at_end (λ (r : Term × List ℕ). AttrReaches c.args.tables.now.axioms c.args.attr r.0 × (c.args.datatype.now ≢ r.1)) c.args.ranges.now c.loop-range.range-index all c.loop-range.invariant (range v d, m, (h, ne))),
    )
