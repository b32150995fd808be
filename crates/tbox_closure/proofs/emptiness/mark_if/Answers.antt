use Rattle.std.proofs.Common.{sym, ◌∙◌}
use Rattle.tbox_closure.specs.Tables.{IsItselfAt}
use Rattle.tbox_closure.proofs.EmptyLaws.{notes_one}
use Rattle.tbox_closure.proofs.emptiness.mark_if.Goals as goal

pub returns-then-is_contradictory-clause-wide : goal.returns-then-is_contradictory-clause-wide
returns-then-is_contradictory-clause-wide c = c.mark_at.ensures.wide 1 c.requires.wide

pub returns-then-is_contradictory-clause-noted : goal.returns-then-is_contradictory-clause-noted
returns-then-is_contradictory-clause-noted c =
    notes_one (IsItselfAt c.args.tables.now.axioms c.args.concept) c.merged_number.result c.args.rows.now c.mark_at.new.rows
    (c.merged_number.ensures, c.is_contradictory.ensures.0 c.if-is_contradictory.true) (λ k q. q.0 ∙ sym c.merged_number.ensures) c.mark_at.ensures.marked
