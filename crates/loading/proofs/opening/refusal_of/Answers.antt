use Rattle.loading.proofs.LoadingLaws.{stands_at}
use Rattle.loading.proofs.opening.refusal_of.Goals as goal

pub returns-in-Ok : goal.returns-in-Ok
returns-in-Ok c =
    let named = rw c.in-Alone.is at c.requires in
    (c.in-Alone.place, stands_at c.args.facts.now c.in-Alone.place named.here.0 c.index-facts-place.result c.in-Ok.fact named.here.1 c.index-facts-place.is c.in-Ok.ensures, named)
