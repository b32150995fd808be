use Rattle.std.proofs.Common.{◌≡◌, length}
use Rattle.dl_text.specs.Values.{without_zeros}
use Rattle.dl_text.proofs.values.without_zeros.Given as goal

abbrev pub invariant-loop-first : goal.invariant-loop-first
invariant-loop-first l = without_zeros l.digits ≡ without_zeros l.rest

abbrev pub decreases-loop-first : goal.decreases-loop-first
decreases-loop-first l = length l.rest
