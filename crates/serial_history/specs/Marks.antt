-- Facts that are marked as removed or added.
use Rattle.std.specs.Prelude.{◌≡◌, ◌↔◌, ◌⊎◌, true, false, List, [], ◌∷◌, Contains, map}
use Rattle.dl_base.specs.declared.statements.Fact.{Fact}
use Rattle.dl_base.specs.declared.requests.Changed.{Changed}
use Rattle.dl_base.specs.FactOrder.{AreSorted}

-- the fact, as removed where it is among the removed ones, and else as added
abbrev pub Marked : List Fact → Fact → Changed → Type 0
Marked gone f c = (c.fact ≡ f) × (((c.added ≡ true) × ¬ Contains gone f) ⊎ ((c.added ≡ false) × Contains gone f))

-- each fact, in order, marked
abbrev pub Marks : List Fact → List Fact → List Changed → Type 0
Marks gone [] changed = changed ≡ []
Marks gone (f ∷ facts) [] = ⊥
Marks gone (f ∷ facts) (c ∷ changed) = Marked gone f c × Marks gone facts changed

-- the facts that go, marked as removed, and those that come, marked as added, in the order of facts
pub record IsMarked (gone come : List Fact) (changed : List Changed) : Type 0 where
  pub sorted : AreSorted (map (λ (c : Changed). c.fact) changed)
  pub added : (f : Fact) → Contains changed (record { fact = f; added = true }) ↔ Contains come f
  pub removed : (f : Fact) → Contains changed (record { fact = f; added = false }) ↔ Contains gone f
