use Rattle.std.proofs.Common.{length}
use Rattle.dl_runs.specs.Runs.{HasPlainFront}
use Rattle.dl_runs.proofs.runs.behind_plain.Given as goal

abbrev pub invariant-loop-first : goal.invariant-loop-first
invariant-loop-first l = HasPlainFront l.class l.bytes l.rest

abbrev pub decreases-loop-first : goal.decreases-loop-first
decreases-loop-first l = length l.rest
