use Rattle.std.proofs.Common.{rules, ap, ◌∙◌, sym, Some, None}
use Rattle.history_lock.specs.declared.rule.View.{View}
use Rattle.history_lock.proofs.Homes.{exchanged}
use Rattle.history_lock.proofs.Passing.{passed}
use Rattle.history_lock.proofs.steps.give_back.Goals as goal

pub fetch_add-served-requires : goal.fetch_add-served-requires
fetch_add-served-requires g c = let turning = c.requires.turning in let after = exchanged c.args.seat.now.me c.exchange-was.new.seat.me None (Some c.args.state) turning.1 c.exchange-was.ensures.3 in (
  search rules,
  search rules,
  passed g.S.Grows.opening g.S.Grows.entries _ _ _ turning.0.0 c.args.state (ap (λ (v : View). v.stage) after.0 ∙ turning.0.1) after.1
      (c.requires.state.0 ∙ sym (ap (λ (v : View). v.seen) after.0)) (c.requires.state.1 ∙ sym (ap (λ (v : View). v.opening) after.0)),
)
