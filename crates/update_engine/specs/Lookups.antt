-- Which facts the patterns of a request ask for, and how many patterns there are.
use Rattle.std.specs.Prelude.{◌↔◌, ◌≤◌, ◌*◌, ℕ, List, ◌∷◌, [], Contains, length}
use Rattle.dl_base.specs.declared.axioms.Axiom.{Axiom}
use Rattle.dl_base.specs.declared.patterns.Pattern.{Pattern}
use Rattle.dl_base.specs.declared.statements.Fact.{Fact}
use Rattle.dl_base.specs.Clash.{HasClash}
use Rattle.dl_base.specs.Derivation.{InClosure}
use Rattle.dl_base.specs.Ontologies.{Theory, Knows}
use Rattle.conflict_rules.specs.Counts.{naming}
use Rattle.entail_guards.specs.Asking.{IsAsked}

-- f is known, and has no clash of its own
abbrev pub IsSound : Theory → Fact → Type 0
IsSound theory f = Knows theory f × ¬ HasClash theory.axioms (f ∷ [])

-- f clashes with the insertion
abbrev pub ClashesBeside : List Axiom → Fact → Fact → Type 0
ClashesBeside axioms insertion f = HasClash axioms (f ∷ insertion ∷ [])

-- f entails the deletion
abbrev pub Entails : List Axiom → Fact → Fact → Type 0
Entails axioms deletion f = InClosure axioms (f ∷ []) deletion

-- of the sound facts, the patterns ask for those that stand so to a fact of the list, and for no others
abbrev pub AskFor : Theory → (Fact → Fact → Type 0) → List Fact → List Pattern → Type 0
AskFor theory R facts patterns = (f : Fact) → IsSound theory f → IsAsked patterns f ↔ ((x : Fact) × Contains facts x × R x f)

-- the patterns for so many facts: for each of these at most eight that name a term, and eight for each of the terms
pub record AreFew (terms count : ℕ) (patterns : List Pattern) : Type 0 where
  pub few : (n : ℕ) → naming n patterns ≤ 8 * count
  pub size : length patterns ≤ 8 * terms * count

-- one of the facts clashes with the given one
abbrev pub HasPartner : List Axiom → List Fact → Fact → Type 0
HasPartner axioms facts given = (f : Fact) × Contains facts f × ClashesBeside axioms given f
