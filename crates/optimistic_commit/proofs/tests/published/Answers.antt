use Rattle.optimistic_commit.proofs.ReadyLaws.{ready_after}
use Rattle.optimistic_commit.proofs.tests.published.Goals as goal

pub publish-after-requires-clause-base : goal.publish-after-requires-clause-base
publish-after-requires-clause-base c = (ready_after c.args.state.now c.args.first c.requires.first 2 c.args.second c.publish-before.result c.publish-before.new.self c.publish-before.ensures).base

pub publish-after-requires-clause-asked : goal.publish-after-requires-clause-asked
publish-after-requires-clause-asked c = (ready_after c.args.state.now c.args.first c.requires.first 2 c.args.second c.publish-before.result c.publish-before.new.self c.publish-before.ensures).asked

pub publish-after-requires-clause-taken : goal.publish-after-requires-clause-taken
publish-after-requires-clause-taken c = (ready_after c.args.state.now c.args.first c.requires.first 2 c.args.second c.publish-before.result c.publish-before.new.self c.publish-before.ensures).taken
