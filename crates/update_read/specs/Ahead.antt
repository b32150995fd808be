-- How far it is known that no prefix stands. No public contract names it.
use Rattle.std.specs.Prelude.{◌≡◌, ◌<◌, ℕ, List, ◌∷◌, ◌++◌, length, All, Bool, true, false, ◌||◌, nat_le}
use Rattle.dl_runs.specs.declared.runs.Class.TheVariants as classes
use Rattle.dl_runs.specs.Classes.{is_of, IsPrefix}

-- a byte of a character that may stand in a prefix, or one past ASCII
abbrev pub is_name_byte : ℕ → Bool
is_name_byte b = nat_le 128 b || is_of classes.Prefix b

-- rest is what stands behind the name bytes at the front of raw
pub record IsBehindNames (raw rest : List ℕ) : Type 0 where
  pub front : List ℕ
  pub is : raw ≡ front ++ rest
  pub each : All (λ b. is_name_byte b ≡ true) front
  pub ends : (b : ℕ) (bs : List ℕ) → rest ≡ b ∷ bs → is_name_byte b ≡ false

-- nowhere in the text, as long as more than so many bytes are left, a prefix and a colon stand
abbrev pub IsPrefixless : List ℕ → ℕ → Type 0
IsPrefixless here known = (part s : List ℕ) → here ≡ part ++ s → known < length s → (prefix after : List ℕ) → s ≡ prefix ++ 58 ∷ after → ¬ IsPrefix prefix
