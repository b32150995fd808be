-- What is answered to an ask.
use Rattle.std.specs.Prelude.{◌↔◌, List, [], ◌∷◌, Contains}
use Rattle.dl_base.specs.declared.axioms.Axiom.{Axiom}
use Rattle.dl_base.specs.declared.patterns.Pattern.{Pattern}
use Rattle.dl_base.specs.declared.statements.Fact.{Fact}
use Rattle.dl_base.specs.Derivation.{InClosure}
use Rattle.dl_base.specs.Patterns.{Matches}
use Rattle.entail_guards.specs.Matching.{EntailsMatch}

-- f is in the closure and matches
abbrev pub IsAnswer : List Axiom → List Fact → Pattern → Fact → Type 0
IsAnswer axioms facts p f = InClosure axioms facts f × Matches p f

-- f is held, and its closure holds a fact that matches
abbrev pub MeetsAsk : List Axiom → List Fact → Pattern → Fact → Type 0
MeetsAsk axioms facts p f = Contains facts f × EntailsMatch axioms f p

-- the entailed facts are those that one of the facts entails, in any order
abbrev pub FollowsFromOne : List Axiom → List Fact → List Fact → Type 0
FollowsFromOne axioms facts entailed = (f : Fact) → Contains entailed f ↔ ((g : Fact) × Contains facts g × InClosure axioms (g ∷ []) f)
