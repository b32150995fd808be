use Rattle.std.proofs.Common.{List, ℕ, refl, inl, inr, subst}
use Rattle.dl_io.specs.Causes.{Rose}
use Rattle.dl_io.specs.Writing.{Appends, AppendsFront}
use Rattle.dlupdate.specs.Commands.{words_of}
use Rattle.dlupdate.proofs.AcceptingLaws.{run_done}
use Rattle.dlupdate.proofs.offline.run_offline.Goals as goal

pub returns-in-Ok-write_all-clause-run : goal.returns-in-Ok-write_all-clause-run
returns-in-Ok-write_all-clause-run g c =
    inl (c.in-Ok.report, (c.in-Ok.ensures.told, c.in-Ok.ensures.failed), refl, subst (λ (bs : List ℕ). Appends (g.K.Sink.written c.args.out.now) (g.K.Sink.written c.write_all.new.sink) bs) c.as_slice.ensures.value c.in-Ok-write_all.ensures.ok)

pub returns-in-Ok-clause-run : goal.returns-in-Ok-clause-run
returns-in-Ok-clause-run g c =
    inr (inl (refl, c.in-Err-write_all.ensures.failed, (c.in-Ok.report, (c.in-Ok.ensures.told, c.in-Ok.ensures.failed), subst (λ (bs : List ℕ). AppendsFront (g.K.Sink.written c.args.out.now) (g.K.Sink.written c.write_all.new.sink) bs) c.as_slice.ensures.value c.in-Err-write_all.ensures.front)))

pub returns-in-Ok-write_all-clause-done : goal.returns-in-Ok-write_all-clause-done
returns-in-Ok-write_all-clause-done g c =
    run_done (g.F.Files.contents c.args.files.now) (Rose (g.F.Files.faults c.args.files.now) (g.F.Files.faults c.run.new.files)) (Rose (g.K.Sink.faults c.args.out.now) (g.K.Sink.faults c.write_all.new.sink)) (words_of c.args.words.now)
    (g.K.Sink.written c.args.out.now) (g.K.Sink.written c.write_all.new.sink) c.in-Ok.report.status (returns-in-Ok-write_all-clause-run g c)

pub returns-in-Ok-clause-done : goal.returns-in-Ok-clause-done
returns-in-Ok-clause-done g c =
    run_done (g.F.Files.contents c.args.files.now) (Rose (g.F.Files.faults c.args.files.now) (g.F.Files.faults c.run.new.files)) (Rose (g.K.Sink.faults c.args.out.now) (g.K.Sink.faults c.write_all.new.sink)) (words_of c.args.words.now)
    (g.K.Sink.written c.args.out.now) (g.K.Sink.written c.write_all.new.sink) 7 (returns-in-Ok-clause-run g c)
