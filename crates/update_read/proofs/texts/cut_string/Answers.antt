use Rattle.update_read.proofs.TextLaws.{long_answer, short_answer}
use Rattle.update_read.proofs.texts.cut_string.Goals as goal

pub returns-in-Some : goal.returns-in-Some
returns-in-Some c = long_answer c.args.quote c.args.after.now c.in-Some.long.now c.cut_quoted.result (λ cut. cut.0.now) (λ cut. cut.1.now) c.in-Some.ensures c.cut_quoted.ensures

pub returns-in-None : goal.returns-in-None
returns-in-None c = short_answer c.args.quote c.args.after.now c.cut_quoted-in-None.result (λ cut. cut.0.now) (λ cut. cut.1.now) c.in-None.ensures c.cut_quoted-in-None.ensures
