use Rattle.std.proofs.Common.{◌≡◌, ◌<◌, ◌+◌, ◌∙◌, ◌++◌, ◌∷◌, [], ℕ, List, Vec, Global, length, take, sym, ap, subst, arith}
use Rattle.std.proofs.Math.Seq.{take-length}
use Rattle.dl_base.specs.declared.axioms.Axiom.{Axiom}
use Rattle.dl_base.specs.declared.terms.Term.{Term}
use Rattle.tbox_closure.specs.Tables.{AreRanges}
use Rattle.tbox_closure.proofs.RangeLaws.{range, ranges_push, ranges_skip}
use Rattle.tbox_closure.proofs.ranges.ranges_of.Goals as goal
use Rattle.tbox_closure.proofs.ranges.ranges_of.Goals.{in-Range+in_ok-copy-in-Range+in_ok-push-in-Range, in_default}

items_of : {v w : Vec (Term × List ℕ) Global} → v ≡ w → v.items ≡ w.items
items_of e = ap (λ (v : Vec (Term × List ℕ) Global). v.items) e

pub loop-it-preserved : goal.loop-it-preserved
loop-it-preserved c =
    let axioms : List Axiom = c.args.axioms.now in
    let i : ℕ = c.loop-it.it-index in
    let within : i < length axioms = omega arith in
    elim c.match-it.branch [
      | in-Range+in_ok-copy-in-Range+in_ok-push-in-Range w ↦
          ranges_push axioms i c.it-item.result w.in-Range.attr w.in-Range.datatype c.loop-it.ranges.items c.match-it.ranges.items within c.it-item.is w.in-Range.is
          (items_of w.ranges-is ∙ w.in_ok-push-in-Range.ensures.items ∙ ap (λ (d : List ℕ). c.loop-it.ranges.items ++ range w.in-Range.attr d ∷ []) w.in_ok-copy-in-Range.ensures) c.loop-it.invariant
      | in_default w ↦
          subst (λ (xs : List (Term × List ℕ)). AreRanges (take (i + 1) axioms) xs) (sym (items_of w.ranges-is))
          (ranges_skip axioms i c.it-item.result c.loop-it.ranges.items within c.it-item.is w.in_default.not-Range c.loop-it.invariant)
    ]

pub returns : goal.returns
returns c =
    let all : c.loop-it.it-index ≡ length c.args.axioms.now = omega arith in
    subst (λ (xs : List Axiom). AreRanges xs c.loop-it.ranges.items) (ap (λ n. take n c.args.axioms.now) all ∙ take-length c.args.axioms.now) c.loop-it.invariant
