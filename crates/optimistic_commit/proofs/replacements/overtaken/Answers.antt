use Rattle.std.specs.Arc.{arc_value}
use Rattle.optimistic_commit.proofs.ReadyLaws.{ready_replaced}
use Rattle.optimistic_commit.proofs.replacements.overtaken.Goals as goal

pub publish-published-requires-clause-base : goal.publish-published-requires-clause-base
publish-published-requires-clause-base c = (ready_replaced c.args.state.now c.args.parts c.requires.ready 2 (arc_value c.args.ontology) c.replace-replacing.result c.replace-replacing.new.self c.replace-replacing.ensures).base

pub publish-published-requires-clause-asked : goal.publish-published-requires-clause-asked
publish-published-requires-clause-asked c = (ready_replaced c.args.state.now c.args.parts c.requires.ready 2 (arc_value c.args.ontology) c.replace-replacing.result c.replace-replacing.new.self c.replace-replacing.ensures).asked

pub publish-published-requires-clause-taken : goal.publish-published-requires-clause-taken
publish-published-requires-clause-taken c = (ready_replaced c.args.state.now c.args.parts c.requires.ready 2 (arc_value c.args.ontology) c.replace-replacing.result c.replace-replacing.new.self c.replace-replacing.ensures).taken
