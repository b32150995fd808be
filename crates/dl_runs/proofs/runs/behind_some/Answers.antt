use Rattle.dl_runs.proofs.StretchLaws.{plain_stretch, one_answer}
use Rattle.dl_runs.proofs.runs.behind_some.Goals as goal

pub returns-then-rest-bytes : goal.returns-then-rest-bytes
returns-then-rest-bytes c = plain_stretch c.args.class c.args.bytes.now c.behind_plain-rest.result.now c.behind_plain-rest.ensures c.if-rest-bytes.true

pub returns-else-rest-bytes : goal.returns-else-rest-bytes
returns-else-rest-bytes c = one_answer c.args.class c.args.bytes.now c.behind_one.result (λ rest. rest.now) c.behind_one.ensures
