use Rattle.std.proofs.Common.{refl}
use Rattle.std.specs.Char.{encode_utf8}
use Rattle.update_read.specs.Cutting.{character}
use Rattle.update_read.proofs.LocalLaws.{marked_answer}
use Rattle.update_read.proofs.locals.behind_local.Goals as goal

pub returns-in-Some : goal.returns-in-Some
returns-in-Some c = (encode_utf8 c.in-Some.ensures.0, character c.in-Some.ensures.0 c.in-Some.ensures.2 c.in-Some.ensures.1 refl)

pub returns-in-None : goal.returns-in-None
returns-in-None c = marked_answer c.args.class c.args.here.now c.behind_marked.result (λ rest. rest.now) c.in-None.ensures c.behind_marked.ensures
