use Rattle.std.proofs.Common.{rules}
use Rattle.history_lock.proofs.Splitting.{split_off}
use Rattle.history_lock.proofs.steps.split_off.Goals as goal

pub split_seat-requires : goal.split_seat-requires
split_seat-requires g c = let r = c.requires.first in (search rules, search rules, split_off g.S.Grows.opening g.S.Grows.entries _ _ r.0 r.1.0 r.2)
