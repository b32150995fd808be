use Rattle.loading.proofs.JoiningLaws.{Joins}
use Rattle.loading.proofs.opening.joined.Given as goal

abbrev pub invariant-loop-fact : goal.invariant-loop-fact
invariant-loop-fact l = Joins l.initial.given.items l.yielded l.given.items
