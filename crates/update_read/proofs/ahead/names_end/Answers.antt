use Rattle.std.proofs.Common.{sym, ◌∙◌}
use Rattle.update_read.proofs.AheadLaws.{no_colon, dotted, front_is}
use Rattle.update_read.proofs.ahead.names_end.Goals as goal

pub returns-then-not-begins_colon : goal.returns-then-not-begins_colon
returns-then-not-begins_colon c = no_colon c.args.rest.now c.behind_names-behind.result.now c.behind_names-behind.ensures c.if-not-begins_colon.ensures

pub returns-then-ends_with_dot : goal.returns-then-ends_with_dot
returns-then-ends_with_dot c =
    dotted c.args.rest.now c.behind_names-behind.result.now c.behind_names-behind.ensures c.if-ends_with_dot.ensures.0
    (sym (front_is c.args.rest.now c.behind_names-behind.result.now c.behind_names-behind.ensures) ∙ c.if-ends_with_dot.ensures.1)
