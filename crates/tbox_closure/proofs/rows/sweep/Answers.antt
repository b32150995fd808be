use Rattle.std.proofs.Common.{◌≡◌, ◌<◌, ◌∙◌, ℕ, List, length, get_or, sym, ap, subst, arith, take}
use Rattle.std.specs.Prelude.{Contains}
use Rattle.std.proofs.Math.Seq.{take-length}
use Rattle.std.proofs.lemmas.Bool.{false≢true}
use Rattle.std.proofs.lemmas.List.Elements.{Contains-get_or}
use Rattle.tbox_closure.specs.Marks.{all_spare}
use Rattle.tbox_closure.specs.Graphs.{AreClosed, Grows}
use Rattle.tbox_closure.proofs.RowLaws.{grows_same, grows_on, carried_grows, carried_within, closed_more}
use Rattle.tbox_closure.proofs.rows.sweep.Goals as goal
use Rattle.tbox_closure.proofs.rows.sweep.Goals.{then-carry, else-carry}

pub carry-requires-clause-from : goal.carry-requires-clause-from
carry-requires-clause-from c =
    let within : c.loop-edge.edge-index < length c.args.edges.now = omega arith in
    let low = (c.requires.range (get_or c.args.edges.now c.loop-edge.edge-index (0, 0)) (Contains-get_or c.args.edges.now c.loop-edge.edge-index (0, 0) within)).0 in
    omega (arith, low)

pub carry-requires-clause-to : goal.carry-requires-clause-to
carry-requires-clause-to c =
    let within : c.loop-edge.edge-index < length c.args.edges.now = omega arith in
    let low = (c.requires.range (get_or c.args.edges.now c.loop-edge.edge-index (0, 0)) (Contains-get_or c.args.edges.now c.loop-edge.edge-index (0, 0) within)).1 in
    omega (arith, low)

pub carry-requires-clause-alike : goal.carry-requires-clause-alike
carry-requires-clause-alike c =
    let within : c.loop-edge.edge-index < length c.args.edges.now = omega arith in
    let low = c.requires.range (get_or c.args.edges.now c.loop-edge.edge-index (0, 0)) (Contains-get_or c.args.edges.now c.loop-edge.edge-index (0, 0) within) in
    c.loop-edge.invariant.grows.alike c.requires.alike _ _ (omega (arith, low.1)) (omega (arith, low.0))

pub loop-edge-preserved : goal.loop-edge-preserved
loop-edge-preserved c =
    let inv = c.loop-edge.invariant in
    let edges : List (ℕ × ℕ) = c.args.edges.now in
    let within : c.loop-edge.edge-index < length edges = omega arith in
    let it : ℕ × ℕ = get_or edges c.loop-edge.edge-index (0, 0) in
    let member : Contains edges it = Contains-get_or edges c.loop-edge.edge-index (0, 0) within in
    let low : (it.0 < length c.args.rows.now) × (it.1 < length c.args.rows.now) = c.requires.range it member in
    let from : it.0 < length c.loop-edge.rows = omega (arith, low.0) in
    let to : it.1 < length c.loop-edge.rows = omega (arith, low.1) in
    let grows : Grows edges c.args.rows.now c.carry.new.rows = grows_on edges c.args.rows.now c.loop-edge.rows c.carry.new.rows inv.grows
    (carried_grows edges c.loop-edge.rows c.carry.new.rows it.0 it.1 from to member c.carry.ensures.carries) in
    elim c.if-carry.branch [
      | then-carry w ↦
          let less = c.carry.ensures.fewer w.if-carry.true in
          record {
            grows = grows;
            closed = λ e. absurd (false≢true (sym e ∙ w.changed-is));
            fewer = λ _. omega (arith, less, inv.no_more);
            no_more = omega (arith, less, inv.no_more);
          }
      | else-carry w ↦
          let same = c.carry.ensures.same w.if-carry.false in
          let spares = ap all_spare same in
          record {
            grows = grows;
            closed = λ e. closed_more edges c.carry.new.rows c.loop-edge.edge-index (0, 0) within
                (subst (AreClosed (take c.loop-edge.edge-index edges)) (sym same) (inv.closed (sym w.changed-is ∙ e)))
                (carried_within edges c.loop-edge.rows c.carry.new.rows it.0 it.1 from c.carry.ensures.carries same);
            fewer = λ e. let f = inv.fewer (sym w.changed-is ∙ e) in omega (arith, f, spares);
            no_more = omega (arith, spares, inv.no_more);
          }
    ]

pub returns-clause-closed : goal.returns-clause-closed
returns-clause-closed c e =
    let all : c.loop-edge.edge-index ≡ length c.args.edges.now = omega arith in
    subst (λ (xs : List (ℕ × ℕ)). AreClosed xs c.loop-edge.rows) (ap (λ n. take n c.args.edges.now) all ∙ take-length c.args.edges.now) (c.loop-edge.invariant.closed e)

pub loop-edge-init : goal.loop-edge-init
loop-edge-init c = record {
  grows = grows_same c.args.edges.now c.args.rows.now;
  closed = λ _ edge m. absurd (omega (arith, m.1));
  fewer = λ e. absurd (false≢true e);
  no_more = omega arith;
}
