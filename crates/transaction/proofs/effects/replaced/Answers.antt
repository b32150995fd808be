use Rattle.std.proofs.Common.{}
use Rattle.transaction.proofs.EffectLaws.{replaced_is}
use Rattle.transaction.proofs.effects.replaced.Goals as goal

pub returns : goal.returns
returns c = replaced_is c.args.held.now c.args.go.now c.args.come.now c.in_ok-facts.facts.items c.in_ok-copies_of.field-0.items c.append.new.self.items c.in_ok-facts-2.facts.items
    c.in_ok-facts.ensures c.in_ok-copies_of.ensures c.in_ok-append.ensures.items c.in_ok-facts-2.ensures.same c.in_ok-facts-2.ensures.sorted
