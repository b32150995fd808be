use Rattle.std.proofs.Common.{◌≡◌, ◌<◌, ◌∙◌, ◌+◌, List, length, take, sym, ap, subst, arith}
use Rattle.std.specs.Prelude.{Contains}
use Rattle.std.proofs.Math.Seq.{take-length}
use Rattle.std.proofs.lemmas.List.Elements.{Contains-get_or}
use Rattle.dl_base.specs.declared.axioms.Axiom.{Axiom}
use Rattle.conflict_rules.specs.Functional.{AreFunctional}
use Rattle.conflict_rules.proofs.FunctionalLaws.{functional_none, functional_more, functional_skip}
use Rattle.conflict_rules.proofs.functional.mark_functional.Goals as goal
use Rattle.conflict_rules.proofs.functional.mark_functional.Goals.{in-Some, in-None}

pub bounds-marks-term : goal.bounds-marks-term
bounds-marks-term c =
    let within : c.loop-it.it-index < length c.args.axioms.now = omega arith in
    let member : Contains c.args.axioms.now c.it-item.result = subst (Contains c.args.axioms.now) (sym c.it-item.is) (Contains-get_or c.args.axioms.now c.loop-it.it-index c.it-item.result within) in
    let low = c.requires.range c.in-Some.term (subst (Contains c.args.axioms.now) c.in-Some.ensures member) in
    omega (arith, low)

pub loop-it-init : goal.loop-it-init
loop-it-init c = functional_none c.args.kind c.args.marks.now c.requires.none

pub loop-it-preserved : goal.loop-it-preserved
loop-it-preserved c =
    let within : c.loop-it.it-index < length c.args.axioms.now = omega arith in
    elim c.match-term_of.branch [
      | in-Some w ↦
          let member : Contains c.args.axioms.now c.it-item.result = subst (Contains c.args.axioms.now) (sym c.it-item.is) (Contains-get_or c.args.axioms.now c.loop-it.it-index c.it-item.result within) in
          let low = c.requires.range w.in-Some.term (subst (Contains c.args.axioms.now) w.in-Some.ensures member) in
          functional_more c.args.kind c.args.axioms.now c.loop-it.it-index c.it-item.result w.in-Some.term c.loop-it.marks c.match-term_of.marks within c.it-item.is w.in-Some.ensures (omega (arith, low)) w.marks-is c.loop-it.invariant
      | in-None w ↦ subst (AreFunctional c.args.kind (take (c.loop-it.it-index + 1) c.args.axioms.now)) (sym w.marks-is)
          (functional_skip c.args.kind c.args.axioms.now c.loop-it.it-index c.it-item.result c.loop-it.marks within c.it-item.is w.in-None.ensures c.loop-it.invariant)
    ]

pub returns : goal.returns
returns c =
    let all : c.loop-it.it-index ≡ length c.args.axioms.now = omega arith in
    subst (λ (xs : List Axiom). AreFunctional c.args.kind xs c.loop-it.marks) (ap (λ n. take n c.args.axioms.now) all ∙ take-length c.args.axioms.now) c.loop-it.invariant
