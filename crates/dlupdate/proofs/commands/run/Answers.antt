use Rattle.std.proofs.Common.{subst}
use Rattle.dlupdate.specs.Commands.{words_of}
use Rattle.dlupdate.specs.Runs.{Comes, IsStopped}
use Rattle.dlupdate.proofs.commands.run.Goals as goal

pub returns-in-Err-Report-clause-told : goal.returns-in-Err-Report-clause-told
returns-in-Err-Report-clause-told g c =
    subst (IsStopped (g.F.Files.contents c.args.files.now) (λ k. Comes k (words_of c.args.words.now))) c.in-Err-Report.field-0-is (c.in-Err-Report.ensures.stopped (words_of c.args.words.now) c.in-Some.ensures)
