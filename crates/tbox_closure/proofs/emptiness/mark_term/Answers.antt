use Rattle.tbox_closure.proofs.EmptyLaws.{notes_four}
use Rattle.tbox_closure.proofs.emptiness.mark_term.Goals as goal

pub returns-clause-noted : goal.returns-clause-noted
returns-clause-noted c = notes_four c.args.tables.now.axioms c.args.term c.args.rows.now c.mark_if.new.rows c.mark_if-2.new.rows c.mark_if-3.new.rows c.mark_if-4.new.rows
    c.mark_if.ensures.noted c.mark_if-2.ensures.noted c.mark_if-3.ensures.noted c.mark_if-4.ensures.noted
