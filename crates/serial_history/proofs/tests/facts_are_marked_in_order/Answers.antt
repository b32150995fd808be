use Rattle.std.proofs.Common.{[]}
use Rattle.dl_base.proofs.SameFacts.{in_order_is}
use Rattle.serial_history.proofs.tests.facts_are_marked_in_order.Goals as goal

pub marked-requires-2-clause-sorted : goal.marked-requires-2-clause-sorted
marked-requires-2-clause-sorted g c = in_order_is []
