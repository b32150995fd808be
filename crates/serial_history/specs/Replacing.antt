-- What a replacement of the ontology does to a history.
use Rattle.std.specs.Prelude.{◌≡◌, ℕ, ◌<◌, List, length}
use Rattle.dl_base.specs.declared.axioms.Axiom.{Axiom}
use Rattle.dl_base.specs.declared.statements.Fact.{Fact}
use Rattle.dl_base.specs.Commits.{Replaced, IsReplaced, IsAlone, ArePair}
use Rattle.dl_base.specs.Commits as outcome
use Rattle.dl_base.specs.Ontologies.{Theory}
use Rattle.serial_history.specs.Committing.{Continues}
use Rattle.serial_history.specs.States.{Seen}
use Rattle.serial_history.specs.declared.replacing.Replacing.{Replacing}
use Rattle.serial_history.specs.declared.replacing.Replacing.TheVariants as answer

-- the outcome of a replacement by this editor and ontology, and the entries afterwards
abbrev pub HasReplaced : Seen → ℕ → Theory → Replaced → Seen → Type 0
HasReplaced s editor theory o t = IsReplaced s.opening s.facts s.limit s.entries editor theory o t.entries

-- the replacement by this editor and ontology is answered so, and takes the history s to the history t
abbrev pub ReplacesBy : Seen → ℕ → Theory → Replacing → Seen → Type 0
ReplacesBy s editor theory (answer.Replaced n) t = HasReplaced s editor theory (outcome.InForce n) t × Continues s t
ReplacesBy s editor theory answer.Full t = HasReplaced s editor theory outcome.NoRoom t × (t ≡ s)
ReplacesBy s editor theory (answer.Alone f) t = HasReplaced s editor theory (outcome.Alone f) t × (t ≡ s)
ReplacesBy s editor theory (answer.Pair f g) t = HasReplaced s editor theory (outcome.Pair f g) t × (t ≡ s)
ReplacesBy s editor theory answer.OutOfMemory t = (length s.entries < s.limit) × (t ≡ s)

-- the facts contradict the axioms, and the answer names those that do so first, or memory was refused
abbrev pub Refuses : List Axiom → List Fact → Replacing → Type 0
Refuses axioms facts (answer.Alone f) = IsAlone axioms facts f
Refuses axioms facts (answer.Pair f g) = ArePair axioms facts f g
Refuses axioms facts answer.OutOfMemory = Unit {0}
Refuses axioms facts answer.Full = ⊥
Refuses axioms facts (answer.Replaced n) = ⊥
