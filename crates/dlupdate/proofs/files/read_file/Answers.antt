use Rattle.std.proofs.Common.{subst}
use Rattle.std.specs.Prelude.{Err}
use Rattle.dl_io.specs.Reading.{Gives}
use Rattle.dlupdate.proofs.RunLaws.{long_stop}
use Rattle.dlupdate.proofs.files.read_file.Goals as goal

pub returns-in-Err-TooLong-clause-stopped : goal.returns-in-Err-TooLong-clause-stopped
returns-in-Err-TooLong-clause-stopped g c =
    long_stop (g.F.Files.contents c.args.files.now) c.args.name.now c.args.limit c.about_file-in-Err-TooLong.result (subst (λ r. Gives (g.F.Files.contents c.args.files.now) c.args.name.now c.args.limit (Err r)) c.in-Err-TooLong.field-0-is c.in-Err-TooLong.ensures.gives) c.about_file-in-Err-TooLong.ensures
