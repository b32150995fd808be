use Rattle.fact_index.proofs.LinkLaws.{ordered_once}
use Rattle.fact_index.proofs.links.Links.len.Goals as goal

pub returns-clause-once : goal.returns-clause-once
returns-clause-once c = rw (← c.self.view_is) (ordered_once c.self.inside.forth.keys c.len.ensures.ordered)
