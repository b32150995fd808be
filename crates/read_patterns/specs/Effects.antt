-- What requests put and take for good.
use Rattle.std.specs.Prelude.{List}
use Rattle.dl_base.specs.declared.axioms.Axiom.{Axiom}
use Rattle.dl_base.specs.declared.requests.Request.{Request}
use Rattle.dl_base.specs.declared.statements.Fact.{Fact}
use Rattle.dl_base.specs.Transactions.{Runs, StaysPut, StaysTaken}
use Rattle.dl_base.specs.Updates.{Lists}

-- the requests have a run from the old facts, and these are the facts that it puts and those that it takes for good
abbrev pub AreEffects : List Axiom → List Fact → List Request → List Fact → List Fact → Type 0
AreEffects axioms old requests added removed = (new : List Fact) × (replies : List (List Fact)) × (run : Runs axioms old requests replies new)
    × Lists (StaysPut axioms run) added × Lists (StaysTaken axioms run) removed
