use Rattle.std.proofs.Common.{List, subst}
use Rattle.dl_base.specs.declared.statements.Fact.{Fact}
use Rattle.ntriples.specs.Gathering.{IsJoined}
use Rattle.ntriples.proofs.GatheringLaws.{joined_is}
use Rattle.ntriples.proofs.gathering.Gathered.join.Goals as goal

pub returns : goal.returns
returns c =
    subst (λ (zs : List Fact). IsJoined zs c.args.fact c.insert.new.self.keys) c.self.view_is
    (joined_is c.self.inside.facts.keys c.args.fact c.insert.new.self.keys c.in_ok-insert.ensures.keys)
