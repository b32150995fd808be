use Rattle.std.proofs.Common.{sym, ◌∙◌}
use Rattle.fact_index.proofs.IndexLaws.{facts_sorted}
use Rattle.fact_index.proofs.CountLaws.{as_many}
use Rattle.fact_index.proofs.index.Index.len.Goals as goal

pub returns-clause-len : goal.returns-clause-len
returns-clause-len c =
    rw (← c.self.view_is) (c.len.ensures.len ∙ sym (as_many c.self.inside.numbers c.names-names.ensures.once c.self.inside.links c.len.ensures.once c.self.invariant))

pub returns-clause-sorted : goal.returns-clause-sorted
returns-clause-sorted c = rw (← c.self.view_is) (facts_sorted c.self.inside.numbers c.self.inside.links)
