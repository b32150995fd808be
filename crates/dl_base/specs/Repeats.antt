-- Lists without repeats.
use Rattle.std.specs.Prelude.{◌≡◌, ◌⊎◌, List, [], ◌∷◌, Contains}
use Rattle.dl_base.specs.declared.statements.Fact.{Fact}

-- kept has the facts that stand neither among those seen nor earlier in the list, in their order
abbrev pub IsOnceAfter : List Fact → List Fact → List Fact → Type 0
IsOnceAfter seen [] kept = kept ≡ []
IsOnceAfter seen (f ∷ facts) kept =
    (Contains seen f × IsOnceAfter seen facts kept) ⊎ ((¬ Contains seen f) × ((rest : List Fact) × (kept ≡ f ∷ rest) × IsOnceAfter (f ∷ seen) facts rest))

-- kept has the facts in their order, repeats dropped
abbrev pub IsOnce : List Fact → List Fact → Type 0
IsOnce facts kept = IsOnceAfter [] facts kept
