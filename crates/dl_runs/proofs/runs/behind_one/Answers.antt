use Rattle.std.proofs.Common.{sym, ◌∙◌}
use Rattle.dl_runs.proofs.CharLaws.{not_begun}
use Rattle.dl_runs.proofs.runs.behind_one.Goals as goal

pub returns-else-is_of : goal.returns-else-is_of
returns-else-is_of c = not_begun c.args.class c.args.bytes.now c.in-Some.behind.now c.in-Some.c c.in-Some.ensures.0 (sym c.is_of.ensures ∙ c.if-is_of.false)
