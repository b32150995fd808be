use Rattle.tbox_closure.proofs.EmptyLaws.{empty_is}
use Rattle.tbox_closure.proofs.emptiness.gather_empty.Goals as goal

pub returns : goal.returns
returns c = empty_is c.args.tables.now.axioms c.args.needs.now.edges c.args.rows.now c.mark_terms.new.rows c.mark_partners.new.rows c.gather.new.rows
    c.requires.none c.mark_terms.ensures.noted c.mark_partners.ensures.noted c.requires.same c.gather.ensures
