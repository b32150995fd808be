use Rattle.std.proofs.Common.{take}
use Rattle.std.specs.Prelude.{Contains}
use Rattle.dl_base.specs.declared.requests.Request.{Request}
use Rattle.transaction.specs.Serving.{IsChange}
use Rattle.transaction.proofs.requests.has_change.Given as goal

abbrev pub invariant-loop-request : goal.invariant-loop-request
invariant-loop-request l = (r : Request) → Contains (take l.request-index l.requests) r → ¬ IsChange r
