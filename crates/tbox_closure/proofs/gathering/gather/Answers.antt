use Rattle.std.proofs.Common.{◌++◌, ◌<◌, ◌∙◌, length, ap, arith}
use Rattle.tbox_closure.specs.Edges.{edges_of}
use Rattle.tbox_closure.proofs.LoopLaws.{flat_more}
use Rattle.tbox_closure.proofs.gathering.gather.Goals as goal

pub loop-it-preserved : goal.loop-it-preserved
loop-it-preserved c =
    let within : c.loop-it.it-index < length c.args.axioms.now = omega arith in
    c.in_ok-add.ensures ∙ ap (λ z. z ++ edges_of c.args.part c.it-item.result) c.loop-it.invariant ∙ flat_more (edges_of c.args.part) c.args.axioms.now c.loop-it.it-index c.it-item.result within c.it-item.is
