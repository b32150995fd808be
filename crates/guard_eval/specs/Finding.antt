-- The facts that match one of several patterns, and the steps that finding them takes.
use Rattle.std.specs.Prelude.{◌≡◌, ◌↔◌, ℕ, ◌+◌, ◌≤◌, Bool, true, List, [], ◌∷◌, Contains, count_by, length}
use Rattle.dl_base.specs.declared.patterns.Pattern.{Pattern}
use Rattle.dl_base.specs.declared.statements.Fact.{Fact}
use Rattle.dl_base.specs.Patterns.{Matches}

-- f is held and matches one of the patterns
abbrev pub IsFound : List Pattern → List Fact → Fact → Type 0
IsFound patterns held f = Contains held f × ((p : Pattern) × Contains patterns p × Matches p f)

-- the facts are those that are held and match one of the patterns, in any order
abbrev pub AreFound : List Pattern → List Fact → List Fact → Type 0
AreFound patterns held facts = (f : Fact) → Contains facts f ↔ IsFound patterns held f

-- what w gives for the facts, together
abbrev pub total : (Fact → ℕ) → List Fact → ℕ
total w [] = 0
total w (f ∷ facts) = w f + total w facts

-- the test passes wherever the fact matches the pattern
abbrev pub TellsMatches : (Fact → Pattern → Bool) → Type 0
TellsMatches test = (f : Fact) (p : Pattern) → Matches p f → test f p ≡ true

-- one step for each pattern, and one for each fact at each of the patterns that it can match, by any test of these
abbrev pub CountsFinds : List Pattern → List Fact → ℕ → ℕ → Type 0
CountsFinds patterns facts old new = (test : Fact → Pattern → Bool) → TellsMatches test → new ≤ old + length patterns + total (λ f. count_by (test f) patterns) facts
