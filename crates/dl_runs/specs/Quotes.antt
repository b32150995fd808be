-- What stands inside the quotes of a string.
use Rattle.std.specs.Prelude.{◌≡◌, ◌≢◌, ℕ, List, [], ◌∷◌}
use Rattle.dl_text.specs.Going.{Goes}
use Rattle.dl_text.specs.Escapes.{joined}

-- inside quotes: a byte, or a backslash with the byte behind it
pub data InText (raw out rest : List ℕ) : Type 0 where
  single : (b : ℕ) → b ≢ 34 → b ≢ 92 → raw ≡ b ∷ rest → out ≡ b ∷ [] → InText raw out rest
  pair : (e : ℕ) → raw ≡ 92 ∷ e ∷ rest → out ≡ 92 ∷ e ∷ [] → InText raw out rest

-- what stands up to the quote that ends the text
abbrev pub IsQuoted : List ℕ → List ℕ → List ℕ → Type 0
IsQuoted raw inner rest = (pieces : List (List ℕ)) × Goes InText raw pieces (34 ∷ rest) × (inner ≡ joined pieces)
