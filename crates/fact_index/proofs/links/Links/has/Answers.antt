use Rattle.fact_index.proofs.LinkLaws.{is_member}
use Rattle.fact_index.proofs.links.Links.has.Goals as goal

pub returns : goal.returns
returns c = rw (← c.self.view_is) (is_member c.self.inside.forth c.args.link.now c.contains.ensures)
