use Rattle.std.proofs.Common.{◌+◌, List, sym, subst, take}
use Rattle.dl_base.specs.declared.requests.Changed.{Changed}
use Rattle.serial_history.specs.Marks.{Marks}
use Rattle.serial_history.proofs.MarkLaws.{marks_more, marked_by}
use Rattle.serial_history.proofs.marking.mark.Goals as goal

pub loop-fact-preserved : goal.loop-fact-preserved
loop-fact-preserved c =
    let gone = c.args.gone.now in
    let facts = c.args.facts.now in
    subst (λ (cs : List Changed). Marks gone (take (c.loop-fact.fact-index + 1) facts) cs) (sym c.in_ok-push.ensures.items)
    (marks_more gone facts c.loop-fact.changed.items c.loop-fact.fact-index c.fact-item.result _ c.loop-fact-test.true c.fact-item.is c.loop-fact.invariant
    (marked_by gone c.fact-item.result c.in_ok-copy.field-0 c.is_in_order.result c.in_ok-copy.ensures c.is_in_order.ensures))
