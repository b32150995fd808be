use Rattle.std.proofs.Common.{◌≡◌, ◌<◌, ◌∙◌, ◌++◌, ◌∷◌, [], ℕ, List, length, get_or, sym, ap, subst, arith, false, Vec, Global}
use Rattle.std.specs.Prelude.{Contains}
use Rattle.std.proofs.lemmas.List.Elements.{Contains-get_or}
use Rattle.tbox_closure.specs.Graphs.{AreAmong, AreBegun, AreAlike}
use Rattle.tbox_closure.proofs.RowLaws.{first_sound, begun_first, followed_sound, followed_among, followed_begun, followed_alike, followed_none}
use Rattle.tbox_closure.proofs.graphs.follow.Goals as goal
use Rattle.tbox_closure.proofs.graphs.follow.Goals.{then-place-edges+then-wanted+in_ok-push, then-place-edges+else-wanted, else-place-edges}

items_of : {v w : Vec (ℕ × ℕ) Global} → v ≡ w → v.items ≡ w.items
items_of e = ap (λ (v : Vec (ℕ × ℕ) Global). v.items) e

pub carry-requires-clause-from : goal.carry-requires-clause-from
carry-requires-clause-from c =
    let place : ℕ = (get_or c.args.schedule.now c.loop-step.step-index (0, false)).0 in
    let low = c.requires.range (get_or c.args.edges.now place (0, 0)) (Contains-get_or c.args.edges.now place (0, 0) c.if-place-edges.true) in
    omega (arith, low.0)

pub carry-requires-clause-to : goal.carry-requires-clause-to
carry-requires-clause-to c =
    let place : ℕ = (get_or c.args.schedule.now c.loop-step.step-index (0, false)).0 in
    let low = c.requires.range (get_or c.args.edges.now place (0, 0)) (Contains-get_or c.args.edges.now place (0, 0) c.if-place-edges.true) in
    omega (arith, low.1)

pub carry-requires-clause-alike : goal.carry-requires-clause-alike
carry-requires-clause-alike c =
    let place : ℕ = (get_or c.args.schedule.now c.loop-step.step-index (0, false)).0 in
    let low = c.requires.range (get_or c.args.edges.now place (0, 0)) (Contains-get_or c.args.edges.now place (0, 0) c.if-place-edges.true) in
    c.loop-step.invariant.alike _ _ (omega (arith, low.1)) (omega (arith, low.0))

pub loop-step-init : goal.loop-step-init
loop-step-init c = record {
  among = λ e m. absurd (none e (subst (λ (xs : List (ℕ × ℕ)). Contains xs e) c.new-few.ensures.items m));
  begun = begun_first c.args.rows.now c.requires.first;
  sound = first_sound c.new-few.result.items c.args.rows.now c.requires.first;
  alike = c.requires.alike;
}
  where
    none : (e : ℕ × ℕ) → Contains [] e → ⊥
    none e m = omega (arith, m.1)

pub loop-step-preserved : goal.loop-step-preserved
loop-step-preserved c =
    let inv = c.loop-step.invariant in
    let edges : List (ℕ × ℕ) = c.args.edges.now in
    let few : List (ℕ × ℕ) = c.loop-step.few.items in
    let place : ℕ = (get_or c.args.schedule.now c.loop-step.step-index (0, false)).0 in
    let it : ℕ × ℕ = get_or edges place (0, 0) in
    elim c.if-place-edges.branch [
      | then-place-edges+then-wanted+in_ok-push w ↦
          let member : Contains edges it = Contains-get_or edges place (0, 0) w.if-place-edges.true in
          let low : (it.0 < length c.args.rows.now) × (it.1 < length c.args.rows.now) = c.requires.range it member in
          let from : it.0 < length c.loop-step.rows = omega (arith, low.0) in
          let to : it.1 < length c.loop-step.rows = omega (arith, low.1) in
          let more : c.if-place-edges.few.items ≡ few ++ it ∷ [] = items_of w.few-is ∙ w.in_ok-push.ensures.items in
          let carries = w.carry.ensures.carries in
          record {
            among = followed_among edges few it _ more member inv.among;
            begun = subst AreBegun (sym w.rows-is) (followed_begun few it c.loop-step.rows w.carry.new.rows from to carries (omega arith) inv.begun);
            sound = followed_sound few it c.loop-step.rows w.carry.new.rows _ _ from to carries more w.rows-is inv.sound;
            alike = subst AreAlike (sym w.rows-is) (followed_alike few it c.loop-step.rows w.carry.new.rows from to carries inv.alike);
          }
      | then-place-edges+else-wanted w ↦ record {
        among = subst (AreAmong edges) (sym (items_of w.few-is)) inv.among;
        begun = subst AreBegun (sym w.rows-is) inv.begun;
        sound = followed_none few c.loop-step.rows _ _ (items_of w.few-is) w.rows-is inv.sound;
        alike = subst AreAlike (sym w.rows-is) inv.alike;
      }
      | else-place-edges w ↦ record {
        among = subst (AreAmong edges) (sym (items_of w.few-is)) inv.among;
        begun = subst AreBegun (sym w.rows-is) inv.begun;
        sound = followed_none few c.loop-step.rows _ _ (items_of w.few-is) w.rows-is inv.sound;
        alike = subst AreAlike (sym w.rows-is) inv.alike;
      }
    ]
