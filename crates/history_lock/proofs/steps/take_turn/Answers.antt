use Rattle.std.proofs.Common.{rules, ap, ◌∙◌}
use Rattle.history_lock.proofs.Turning.{drawn, tried}
use Rattle.history_lock.proofs.steps.take_turn.Goals as goal

pub fetch_add-ticket-requires : goal.fetch_add-ticket-requires
fetch_add-ticket-requires g c = (search rules, search rules, drawn g.S.Grows.opening g.S.Grows.entries _ _ _ c.requires.out.0)

pub load-serving-requires : goal.load-serving-requires
load-serving-requires g c = (search rules, search rules, tried g.S.Grows.opening g.S.Grows.entries _ _ _ c.fetch_add-ticket.result (ap (λ m. m.0.stage) c.loop.invariant.2 ∙ ap (λ v. v.stage) c.fetch_add-ticket.ensures.2.1))
