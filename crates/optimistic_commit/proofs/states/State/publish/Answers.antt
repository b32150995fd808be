use Rattle.std.proofs.Common.{◌<◌, length, arith, sym, subst}
use Rattle.serial_history.specs.States.{Seen, AreTaken}
use Rattle.optimistic_commit.specs.Publishing.{Publishes}
use Rattle.optimistic_commit.proofs.states.State.publish.Goals as goal
use Rattle.optimistic_commit.proofs.states.State.publish.Goals.{in-Ok, in-Err}

pub commit-requires-clause-taken : goal.commit-requires-clause-taken
commit-requires-clause-taken g c = subst (λ (s : Seen). AreTaken s c.args.parts) (sym c.self.view_is) c.requires.taken

pub returns : goal.returns
returns g c =
    subst (λ (s : Seen). Publishes s c.args.editor c.args.parts c.match-commit.result c.commit.new.self) c.self.view_is
    (elim c.match-commit.branch [
      | in-Ok w ↦ rw w.result-is w.in-Ok.ensures.ok
      | in-Err w ↦
          let room : length c.self.inside.history.entries < c.self.inside.history.limit = omega (arith, c.if-length-limit.false, c.length.ensures.count, c.limit.ensures) in
          rw w.result-is (room, w.in-Err.ensures.refused.0, w.in-Err.ensures.refused.1)
    ])
