use Rattle.std.proofs.Common.{◌≡◌, ◌∙◌, ℕ, List, length, ap, subst, arith, take}
use Rattle.std.proofs.Math.Seq.{take-length}
use Rattle.tbox_closure.specs.Graphs.{AreMarked}
use Rattle.tbox_closure.proofs.RowLaws.{marked_more}
use Rattle.tbox_closure.proofs.rows.are_marked.Goals as goal

pub loop-edge-preserved : goal.loop-edge-preserved
loop-edge-preserved c = marked_more c.args.edges.now c.args.rows.now c.loop-edge.edge-index (0, 0) (omega arith) c.loop-edge.invariant (c.is_marked.ensures.0 c.if-not-is_marked.false)

pub returns : goal.returns
returns c _ =
    let all : c.loop-edge.edge-index ≡ length c.args.edges.now = omega arith in
    subst (λ (xs : List (ℕ × ℕ)). AreMarked xs c.args.rows.now) (ap (λ n. take n c.args.edges.now) all ∙ take-length c.args.edges.now) c.loop-edge.invariant
