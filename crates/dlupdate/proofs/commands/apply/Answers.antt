use Rattle.dlupdate.specs.Commands.{words_of}
use Rattle.dlupdate.proofs.CommandLaws.{apply_ok, apply_ends, apply_stopped}
use Rattle.dlupdate.proofs.commands.apply.Goals as goal

pub returns-in-Err-clause-stopped : goal.returns-in-Err-clause-stopped
returns-in-Err-clause-stopped g c = λ words says. apply_stopped (g.F.Files.contents c.args.files.now) c.args.ontology.now words (words_of c.args.updates.now) c.in-Err.stop says c.in-Err.ensures.stopped

pub returns-in-Ok-followed-clause-ok : goal.returns-in-Ok-followed-clause-ok
returns-in-Ok-followed-clause-ok g c = λ words says.
    let told = rw c.in-Ok.ensures.same at c.in-Ok-followed.ensures.ok in
    apply_ok (g.F.Files.contents c.args.files.now) c.args.ontology.now words (words_of c.args.updates.now) c.in-Ok.opened c.in-Ok-followed.report says c.in-Ok.ensures.ok c.in-Ok.ensures.base told

pub returns-in-Err-followed-clause-stopped : goal.returns-in-Err-followed-clause-stopped
returns-in-Err-followed-clause-stopped g c = λ words says.
    let stopped = rw c.in-Ok.ensures.same at c.in-Err-followed.ensures.stopped in
    apply_ends (g.F.Files.contents c.args.files.now) c.args.ontology.now words (words_of c.args.updates.now) c.in-Ok.opened c.in-Err-followed.stop says c.in-Ok.ensures.ok c.in-Ok.ensures.base stopped
