use Rattle.dlupdate.proofs.CommittingLaws.{committed_is}
use Rattle.dlupdate.proofs.committing.committed.Goals as goal

pub returns-in-Committed : goal.returns-in-Committed
returns-in-Committed c = λ stored stands.
    let changes = rw c.in-Lost.is at c.in_ok-lost.ensures.ok in
    let commits = rw c.in-Committed.is at c.in_ok-step-in-Lost.ensures.ok in
    committed_is c.args.world.now c.step.new.self c.step-2.new.self c.step-in-Lost.new.self c.in_ok-step.field-0 stored c.version-after.result.now c.args.inserts c.args.deletes c.in-Lost.lost c.in-Committed.field-0
    c.requires.idle stands.2 c.in_ok-step.ensures.ok changes commits c.version-after.ensures.stands c.version-after.ensures.sorted
