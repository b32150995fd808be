use Rattle.std.proofs.Common.{[], refl}
use Rattle.update_read.proofs.ahead.prefix_in_front.Goals as goal

pub returns-then-bytes-known : goal.returns-then-bytes-known
returns-then-bytes-known c prefix after e = c.requires [] c.args.bytes.now refl c.if-bytes-known.true prefix after e
