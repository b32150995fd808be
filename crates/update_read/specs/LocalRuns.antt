-- What the cuts of local parts give. No public contract names it.
use Rattle.std.specs.Prelude.{◌≡◌, ◌≢◌, ◌⊎◌, ℕ, List, [], ◌∷◌, IsTrue}
use Rattle.std.specs.Char.{is_ascii_hexdigit}
use Rattle.dl_text.specs.Escapes.{is_local_escape}

-- % with two hexadecimal digits, or a backslash with a byte that it may stand before
pub data IsMarked (s m : List ℕ) : Type 0 where
  percent : (d e : ℕ) → IsTrue (is_ascii_hexdigit d) → IsTrue (is_ascii_hexdigit e) → s ≡ 37 ∷ d ∷ e ∷ m → IsMarked s m
  escaped : (e : ℕ) → IsTrue (is_local_escape e) → s ≡ 92 ∷ e ∷ m → IsMarked s m

-- the end stays where a dot stands, and else goes behind the piece
abbrev pub EndsBehind : List ℕ → List ℕ → List ℕ → List ℕ → Type 0
EndsBehind here behind end next = ((more : List ℕ) × (here ≡ 46 ∷ more) × (next ≡ end)) ⊎ (((more : List ℕ) → here ≢ 46 ∷ more) × (next ≡ behind))
