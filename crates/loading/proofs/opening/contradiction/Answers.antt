use Rattle.loading.proofs.opening.contradiction.Goals as goal

pub returns-in-None : goal.returns-in-None
returns-in-None c = rw c.in-None.is at c.in-Ok.ensures.consistent

pub refusal_of-requires : goal.refusal_of-requires
refusal_of-requires c = rw c.in-Some.is at c.in-Ok.ensures.clash
