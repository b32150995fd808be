-- The commands, by their words.
use Rattle.std.specs.Prelude.{◌≡◌, ℕ, ◌<◌, ◌≤◌, List, [], ◌∷◌, Option, Some, None, codes, length, map, String, string_bytes}
use Rattle.dlupdate.specs.declared.words.Command.{Command as Found}
use Rattle.dlupdate.specs.declared.words.Command.TheVariants as found

-- a command with the names of its files
pub data Command : Type 0 where
  Check : (ontology : List ℕ) (facts : Option (List ℕ)) → Command
  Apply : (ontology : List ℕ) (updates : List (List ℕ)) → Command
  Script : (ontology facts : List ℕ) (updates : List (List ℕ)) → Command

-- the words say the command: `check ONTOLOGY [FACTS]`, `apply ONTOLOGY UPDATE`, or `script ONTOLOGY FACTS UPDATE [UPDATE ..]` with at most 1,000 updates
abbrev pub Says : List (List ℕ) → Command → Type 0
Says words (Check ontology None) = words ≡ codes "check" ∷ ontology ∷ []
Says words (Check ontology (Some facts)) = words ≡ codes "check" ∷ ontology ∷ facts ∷ []
Says words (Apply ontology updates) = (words ≡ codes "apply" ∷ ontology ∷ updates) × (length updates ≡ 1)
Says words (Script ontology facts updates) = (words ≡ codes "script" ∷ ontology ∷ facts ∷ updates) × (0 < length updates) × (length updates ≤ 1000)

-- the words by their bytes
abbrev pub words_of : {A : Type 0} → List (String A) → List (List ℕ)
words_of words = map string_bytes words
