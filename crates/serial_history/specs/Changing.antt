-- What the parts of a transaction change of a version.
use Rattle.std.specs.Prelude.{Bool, true, false, List, Contains}
use Rattle.dl_base.specs.Changing.{IsChanged, IsTrimmed}
use Rattle.dl_base.specs.FactOrder.{AreSorted}
use Rattle.dl_base.specs.Picks.{Picks}
use Rattle.dl_base.specs.declared.requests.Changed.{Changed}
use Rattle.dl_base.specs.declared.statements.Fact.{Fact}
use Rattle.serial_history.specs.Marks.{IsMarked}
use Rattle.read_patterns.specs.declared.parts.Parts.{Parts}

-- the fact is held, or it isn't
abbrev pub IsHeldAs : Bool → List Fact → Fact → Type 0
IsHeldAs true version f = Contains version f
IsHeldAs false version f = ¬ Contains version f

-- the put facts that the version lacks come and the taken ones that it holds go, and these are the facts and the layers after that
pub record IsUpdate (version : List Fact) (layers : List (List Fact)) (parts : Parts) (changed : List Changed) (next : List Fact) (after : List (List Fact)) : Type 0 where
  pub marked : (come gone : List Fact) × Picks (IsHeldAs false version) parts.added.items come × Picks (IsHeldAs true version) parts.removed.items gone × IsMarked gone come changed
  pub changes : IsChanged version changed next
  pub sorted : AreSorted next
  pub trimmed : IsTrimmed layers next after
