use Rattle.std.proofs.Common.{ap, sym, subst, ◌∙◌, ℕ, List}
use Rattle.std.specs.Prelude.{Contains}
use Rattle.std.proofs.lemmas.List.Elements.{Contains-append_left, Contains-append_right}
use Rattle.dl_base.specs.Histories.{own}
use Rattle.history_lock.specs.Seats.{SeatState}
use Rattle.history_lock.proofs.Growing.{own_still}
use Rattle.history_lock.proofs.samples.join_and_turn.Goals as goal

pub returns-clause-this : goal.returns-clause-this
returns-clause-this g c = let e : ℕ = c.args.seat.now.editor in let here = c.editor-carried.ensures.carried in
    let carried = ap (λ (s : SeatState). s.carried) c.join.ensures.seat in
    ap (own e) (ap (λ (s : SeatState). s.seen) c.done.ensures)
    ∙ own_still e c.join.ensures.this c.turn-state.ensures.later here (subst (λ (cs : List ℕ). Contains cs e) (sym carried) (Contains-append_left c.args.seat.now.carried c.args.other.carried e here))

pub returns-clause-that : goal.returns-clause-that
returns-clause-that g c = let e : ℕ = c.args.other.editor in let here = c.editor-carried-2.ensures.carried in
    let carried = ap (λ (s : SeatState). s.carried) c.join.ensures.seat in
    ap (own e) (ap (λ (s : SeatState). s.seen) c.done.ensures)
    ∙ own_still e c.join.ensures.that c.turn-state.ensures.later here (subst (λ (cs : List ℕ). Contains cs e) (sym carried) (Contains-append_right c.args.seat.now.carried c.args.other.carried e here))
