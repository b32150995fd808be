use Rattle.std.proofs.Common.{length}
use Rattle.dl_runs.proofs.TagLaws.{IsTagTo}
use Rattle.dl_runs.proofs.cuts.cut_tag.Given as goal

abbrev pub invariant-loop-more : goal.invariant-loop-more
invariant-loop-more l = IsTagTo l.bytes l.rest

abbrev pub decreases-loop-more : goal.decreases-loop-more
decreases-loop-more l = length l.rest
