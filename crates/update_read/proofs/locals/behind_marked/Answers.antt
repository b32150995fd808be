use Rattle.update_read.proofs.LocalLaws.{percent_answer, escaped_answer}
use Rattle.update_read.proofs.locals.behind_marked.Goals as goal

pub returns-in-Some-eq37-default : goal.returns-in-Some-eq37-default
returns-in-Some-eq37-default c =
    percent_answer c.args.here.now c.in-Some-eq37-default.rest.now c.in-Some-eq37-default.field-0-0.now c.behind_two_hex.result (λ rest. rest.now) c.in-Some-eq37-default.ensures.cases.0 c.in-Some-eq37-default.field-0-0-test c.behind_two_hex.ensures

pub returns-in-Some-eq92-default : goal.returns-in-Some-eq92-default
returns-in-Some-eq92-default c =
    escaped_answer c.args.here.now c.in-Some-eq92-default.rest.now c.in-Some-eq92-default.field-0-0.now c.behind_escaped.result (λ rest. rest.now) c.in-Some-eq92-default.ensures.cases.0 c.in-Some-eq92-default.field-0-0-test c.behind_escaped.ensures
