use Rattle.std.proofs.Common.{rules, ap}
use Rattle.history_lock.proofs.Joining.{joined, settled}
use Rattle.history_lock.proofs.steps.join_in.Goals as goal

pub join_seat-requires : goal.join_seat-requires
join_seat-requires g c = let r = c.requires.out in (search rules, search rules, r.1.1, search rules, joined g.S.Grows.opening g.S.Grows.entries _ _ _ _ r.0.0 r.1.0)

pub load-requires : goal.load-requires
load-requires g c = (search rules, search rules, settled g.S.Grows.opening g.S.Grows.entries _ _ _ _ _ (ap (λ m. m.0.stage) c.join_seat.ensures.2))
