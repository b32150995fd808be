use Rattle.std.proofs.Common.{}
use Rattle.fact_delta.proofs.ListLaws.{exchanged_is}
use Rattle.fact_delta.proofs.lists.exchanged.Goals as goal

pub returns : goal.returns
returns c = exchanged_is c.args.held.now c.args.less.now c.args.more.now c.args.but.now c.in_ok-facts.facts.items c.in_ok-absent.field-0.items c.append.new.self.items c.in_ok-facts-2.facts.items
    c.in_ok-facts.ensures c.in_ok-absent.ensures c.in_ok-append.ensures.items c.in_ok-facts-2.ensures.same c.in_ok-facts-2.ensures.sorted
