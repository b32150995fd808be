use Rattle.std.proofs.Common.{rules, ap, ◌∙◌, sym, subst, ◌≡◌, ℕ, length, Option, Some, None, List, ◌∷◌}
use Rattle.atomic_table.specs.Table.{rest}
use Rattle.dl_base.specs.declared.requests.Entry.{Entry}
use Rattle.history_lock.specs.declared.rule.View.{View}
use Rattle.history_lock.specs.Steps.{Enters}
use Rattle.history_lock.proofs.Homes.{exchanged, slot_of}
use Rattle.history_lock.proofs.Looking.{seen, entered}
use Rattle.history_lock.proofs.steps.take_state.Goals as goal

pub exchange-requires : goal.exchange-requires
exchange-requires g c = let q = c.requires.taken in (search rules, (Some q.1, q.3 ∙ ap (λ (cs : List (ℕ × Option g.row.S.Denot)). (0, Some q.1) ∷ rest cs) (sym q.3)))

pub load-count-requires : goal.load-count-requires
load-count-requires g c = let q = c.requires.taken in let after = exchanged c.args.seat.now.me c.exchange.new.seat.me (Some q.1) None q.3 c.exchange.ensures.3 in
    (search rules, search rules, seen g.S.Grows.opening g.S.Grows.entries _ _ _ q.0 _ (ap (λ (v : View). v.stage) after.0 ∙ q.2))

pub returns-clause-same : goal.returns-clause-same
returns-clause-same g c = let q = c.requires.taken in let after = exchanged c.args.seat.now.me c.exchange.new.seat.me (Some q.1) None q.3 c.exchange.ensures.3 in
    let saw = c.load-count.ensures.2 q.0 (g.S.Grows.entries q.1) (ap (λ (v : View). v.stage) after.0 ∙ q.2) in
    (search rules, search rules, ((q.0, ap (λ (v : View). v.stage) saw.1), saw.0 ∙ after.1))

pub returns-clause-state : goal.returns-clause-state
returns-clause-state g c = let q = c.requires.taken in let after = exchanged c.args.seat.now.me c.exchange.new.seat.me (Some q.1) None q.3 c.exchange.ensures.3 in
    let saw = c.load-count.ensures.2 q.0 (g.S.Grows.entries q.1) (ap (λ (v : View). v.stage) after.0 ∙ q.2) in
    let slot : Some q.1 ≡ c.exchange.result = ap (λ (cs : List (ℕ × Option g.row.S.Denot)). slot_of cs) (sym q.3 ∙ c.exchange.ensures.2) in
    let same : q.1 ≡ c.unwrap-state.result = search rules in (
      ap g.S.Grows.opening (sym same) ∙ q.4,
      subst (λ (v : View). Enters v c.load-count.new.seat.me.0 (g.S.Grows.entries c.unwrap-state.result)) after.0
          (subst (λ (x : g.row.S.Denot). Enters c.exchange.new.seat.me.0 c.load-count.new.seat.me.0 (g.S.Grows.entries x)) same (entered _ _ _ q.0 saw.1 saw.3)),
    )

pub returns-clause-count : goal.returns-clause-count
returns-clause-count g c = let q = c.requires.taken in let after = exchanged c.args.seat.now.me c.exchange.new.seat.me (Some q.1) None q.3 c.exchange.ensures.3 in
    let saw = c.load-count.ensures.2 q.0 (g.S.Grows.entries q.1) (ap (λ (v : View). v.stage) after.0 ∙ q.2) in
    saw.2 ∙ ap (λ (h : List Entry). length h) (sym (ap (λ (v : View). v.seen) saw.1))
