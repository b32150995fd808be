use Rattle.std.proofs.Common.{sym, subst}
use Rattle.std.specs.Str.{IsValidUpTo}
use Rattle.dl_runs.proofs.CharLaws.{valid_front, valid_longest}
use Rattle.dl_runs.proofs.runs.front_text.Goals as goal

pub returns-in-Ok-from_utf8-clause-front : goal.returns-in-Ok-from_utf8-clause-front
returns-in-Ok-from_utf8-clause-front c =
    valid_front c.args.bytes.now c.in-Ok-from_utf8.text.now c.valid_up_to.result (subst (IsValidUpTo c.args.bytes.now) (sym c.valid_up_to.ensures) c.in-Err.ensures.cases.1) c.in-Ok-from_utf8.ensures.cases.0

pub returns-in-Ok-from_utf8-clause-longest : goal.returns-in-Ok-from_utf8-clause-longest
returns-in-Ok-from_utf8-clause-longest c =
    valid_longest c.args.bytes.now c.in-Ok-from_utf8.text.now c.valid_up_to.result (subst (IsValidUpTo c.args.bytes.now) (sym c.valid_up_to.ensures) c.in-Err.ensures.cases.1) c.in-Ok-from_utf8.ensures.cases.0
