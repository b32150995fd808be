use Rattle.std.proofs.Common.{rules}
use Rattle.history_lock.proofs.Starting.{starts}
use Rattle.history_lock.proofs.lock.HistoryLock.start.Goals as goal

pub new-requires : goal.new-requires
new-requires g c = starts g.S.Grows.opening g.S.Grows.entries c.args.state c.push_reserved.new.self.items _ (search rules) (search rules) c.requires.none c.requires.limit
