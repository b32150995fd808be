use Rattle.dl_base.proofs.SetLaws.{removed}
use Rattle.fact_index.proofs.LinkOrder.{link_total, link_exact}
use Rattle.fact_index.proofs.LinkLaws.{is_member, taken_both}
use Rattle.fact_index.proofs.links.Links.remove.Goals as goal

pub invariant_of-self : goal.invariant_of-self
invariant_of-self c =
    taken_both c.args.link.now _ _ c.self.invariant _ _
    (removed link_total link_exact c.self.inside.forth c.remove-2.new.self c.args.link.now c.remove-2.ensures.updates.0)
    (rw c.turned.ensures at (removed link_total link_exact c.self.inside.back c.remove.new.self c.turned.result c.remove.ensures.updates.0))

pub returns-clause-removed : goal.returns-clause-removed
returns-clause-removed c = rw (← c.self.view_is) (is_member c.self.inside.forth c.args.link.now c.remove-2.ensures.test)

pub returns-clause-held : goal.returns-clause-held
returns-clause-held c = rw (← c.self.view_is) (removed link_total link_exact c.self.inside.forth c.remove-2.new.self c.args.link.now c.remove-2.ensures.updates.0)
