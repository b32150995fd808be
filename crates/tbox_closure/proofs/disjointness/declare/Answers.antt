use Rattle.std.proofs.Common.{◌≡◌, ◌<◌, ◌∙◌, ◌+◌, List, length, take, sym, ap, subst, arith}
use Rattle.std.proofs.Math.Seq.{take-length}
use Rattle.dl_base.specs.declared.axioms.Axiom.{Axiom}
use Rattle.tbox_closure.specs.Disjointness.{all_pairs, pairs_of, AreDeclared}
use Rattle.tbox_closure.specs.Marks.{AreWide}
use Rattle.tbox_closure.proofs.TurnLaws.{room, pair, pair_below, pair_none, declared_step, declared_skip}
use Rattle.tbox_closure.proofs.disjointness.declare.Goals as goal
use Rattle.tbox_closure.proofs.disjointness.declare.Goals.{in-Some, in-None}

pub mark_at-requires-clause-at : goal.mark_at-requires-clause-at
mark_at-requires-clause-at c =
    let low = pair_below (pairs_of c.args.kind) c.args.axioms.now (length c.args.rows.now) c.loop-it.it-index c.it-item.result (pair c.in-Some.d c.in-Some.e) (omega arith) c.it-item.is c.in-Some.ensures c.requires.range in
    omega (arith, low.0)

pub mark_at-requires-clause-node : goal.mark_at-requires-clause-node
mark_at-requires-clause-node c =
    let low = pair_below (pairs_of c.args.kind) c.args.axioms.now (length c.args.rows.now) c.loop-it.it-index c.it-item.result (pair c.in-Some.d c.in-Some.e) (omega arith) c.it-item.is c.in-Some.ensures c.requires.range in
    room (length c.args.rows.now) c.in-Some.d c.in-Some.e c.loop-it.rows c.loop-it.invariant.wide (omega (arith, low.0)) low.1

pub mark_at-requires-in-Some-clause-at : goal.mark_at-requires-in-Some-clause-at
mark_at-requires-in-Some-clause-at c =
    let low = pair_below (pairs_of c.args.kind) c.args.axioms.now (length c.args.rows.now) c.loop-it.it-index c.it-item.result (pair c.in-Some.d c.in-Some.e) (omega arith) c.it-item.is c.in-Some.ensures c.requires.range in
    omega (arith, low.1)

pub mark_at-requires-in-Some-clause-node : goal.mark_at-requires-in-Some-clause-node
mark_at-requires-in-Some-clause-node c =
    let low = pair_below (pairs_of c.args.kind) c.args.axioms.now (length c.args.rows.now) c.loop-it.it-index c.it-item.result (pair c.in-Some.d c.in-Some.e) (omega arith) c.it-item.is c.in-Some.ensures c.requires.range in
    room (length c.args.rows.now) c.in-Some.e c.in-Some.d c.mark_at.new.rows (c.mark_at.ensures.wide (length c.args.rows.now) c.loop-it.invariant.wide) (omega (arith, low.1)) low.0

pub loop-it-init : goal.loop-it-init
loop-it-init c = record { wide = c.requires.wide; declared = pair_none c.args.rows.now c.requires.unmarked }

pub loop-it-preserved : goal.loop-it-preserved
loop-it-preserved c =
    let inv = c.loop-it.invariant in
    let within : c.loop-it.it-index < length c.args.axioms.now = omega arith in
    elim c.match-pair_of.branch [
      | in-Some w ↦ record {
        wide = subst (AreWide (length c.args.rows.now)) (sym w.rows-is) (w.mark_at-in-Some.ensures.wide (length c.args.rows.now) (w.mark_at.ensures.wide (length c.args.rows.now) inv.wide));
        declared = subst (AreDeclared (all_pairs c.args.kind (take (c.loop-it.it-index + 1) c.args.axioms.now))) (sym w.rows-is)
            (declared_step (pairs_of c.args.kind) c.args.axioms.now c.loop-it.it-index c.it-item.result (pair w.in-Some.d w.in-Some.e) c.loop-it.rows w.mark_at.new.rows w.mark_at-in-Some.new.rows
            within c.it-item.is w.in-Some.ensures inv.declared w.mark_at.ensures.marked w.mark_at-in-Some.ensures.marked);
      }
      | in-None w ↦ record {
        wide = subst (AreWide (length c.args.rows.now)) (sym w.rows-is) inv.wide;
        declared = subst (AreDeclared (all_pairs c.args.kind (take (c.loop-it.it-index + 1) c.args.axioms.now))) (sym w.rows-is)
            (declared_skip (pairs_of c.args.kind) c.args.axioms.now c.loop-it.it-index c.it-item.result c.loop-it.rows within c.it-item.is w.in-None.ensures inv.declared);
      }
    ]

pub returns-clause-declared : goal.returns-clause-declared
returns-clause-declared c =
    let all : c.loop-it.it-index ≡ length c.args.axioms.now = omega arith in
    subst (λ (xs : List Axiom). AreDeclared (all_pairs c.args.kind xs) c.loop-it.rows) (ap (λ n. take n c.args.axioms.now) all ∙ take-length c.args.axioms.now) c.loop-it.invariant.declared
