use Rattle.triples.proofs.KnownLaws.{said_known}
use Rattle.triples.proofs.laws.said_is_known.Goals as goal

pub returns : goal.returns
returns c theory subject predicate object said e = said_known theory subject said predicate object e
