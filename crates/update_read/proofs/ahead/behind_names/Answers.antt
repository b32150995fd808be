use Rattle.std.proofs.Common.{sym, ◌∙◌}
use Rattle.update_read.proofs.AheadLaws.{names_more}
use Rattle.update_read.proofs.ahead.behind_names.Goals as goal

pub loop-first-preserved : goal.loop-first-preserved
loop-first-preserved c =
    names_more c.args.bytes.now c.loop-first.rest.now c.in-Some.behind.now c.in-Some.first.now c.loop-first.invariant c.in-Some.ensures.cases.0 (sym c.is_name_byte.ensures ∙ c.if-not-is_name_byte.false)
