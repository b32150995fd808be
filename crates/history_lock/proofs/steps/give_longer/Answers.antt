use Rattle.std.proofs.Common.{rules, ap, ◌∙◌, sym, subst, ◌<◌, Some, None, length}
use Rattle.history_lock.specs.declared.rule.View.{View}
use Rattle.history_lock.specs.Growth.{IsOneMore}
use Rattle.history_lock.proofs.Adding.{added}
use Rattle.history_lock.proofs.Homes.{exchanged}
use Rattle.history_lock.proofs.Passing.{passed}
use Rattle.history_lock.proofs.steps.give_longer.Goals as goal

pub fetch_add-requires : goal.fetch_add-requires
fetch_add-requires g c = let turning = c.requires.turning in let after = exchanged c.args.seat.now.me c.exchange-was.new.seat.me None (Some c.args.state) turning.1 c.exchange-was.ensures.3 in (
  search rules,
  search rules,
  added g.S.Grows.opening g.S.Grows.entries _ _ _ turning.0.0 c.args.state (ap (λ (v : View). v.stage) after.0 ∙ turning.0.1) after.1
      (subst (λ (v : View). IsOneMore v.editor v.seen (g.S.Grows.entries c.args.state)) (sym after.0) c.requires.state.0) (subst (λ (v : View). length v.seen < v.opening.limit) (sym after.0) c.requires.room),
)

pub fetch_add-ended-requires : goal.fetch_add-ended-requires
fetch_add-ended-requires g c = let turning = c.requires.turning in let after = exchanged c.args.seat.now.me c.exchange-was.new.seat.me None (Some c.args.state) turning.1 c.exchange-was.ensures.3 in
    let grew = c.fetch_add.ensures.2 c.args.state after.1 in (
      search rules,
      search rules,
      passed g.S.Grows.opening g.S.Grows.entries _ _ _ turning.0.0 c.args.state (ap (λ (v : View). v.stage) grew.1 ∙ (ap (λ (v : View). v.stage) after.0 ∙ turning.0.1)) (grew.0 ∙ after.1)
          (sym (ap (λ (v : View). v.seen) grew.1)) (c.requires.state.1 ∙ sym (ap (λ (v : View). v.opening) grew.1 ∙ ap (λ (v : View). v.opening) after.0)),
    )
