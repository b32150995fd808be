use Rattle.loading.proofs.JoiningLaws.{once_settled}
use Rattle.loading.proofs.LoadingLaws.{joined_known}
use Rattle.loading.proofs.opening.load_over.Goals as goal

pub joined-requires : goal.joined-requires
joined-requires c = let (said, _, once) = c.in-Ok.ensures.reads.1 in once_settled said c.in-Ok.found.facts once

pub open-requires : goal.open-requires
open-requires c = record {
  known = joined_known c.args.ontology c.args.given.now c.in-Ok.found.facts c.in_ok-all.all.items (c.in_ok-all.ensures c.args.given.now c.in_ok-kept.ensures.once) c.requires.known c.in-Ok.ensures.known;
}
