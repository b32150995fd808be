-- The characters of prefixed names, by the ranges of SPARQL 1.1 (productions 164 to 167).
use Rattle.std.specs.Prelude.{ℕ, List, [], ◌∷◌, ◌++◌, Bool, ◌&&◌, nat_le}
use Rattle.std.specs.List.{list_any}

-- from the first to the last of a range, both included
abbrev pub is_within : ℕ × ℕ → ℕ → Bool
is_within range c = nat_le range.0 c && nat_le c range.1

-- PN_CHARS_BASE
abbrev pub base_ranges : List (ℕ × ℕ)
base_ranges = (0x41, 0x5A) ∷ (0x61, 0x7A) ∷ (0xC0, 0xD6) ∷ (0xD8, 0xF6) ∷ (0xF8, 0x2FF) ∷ (0x370, 0x37D) ∷ (0x37F, 0x1FFF)
    ∷ (0x200C, 0x200D) ∷ (0x2070, 0x218F) ∷ (0x2C00, 0x2FEF) ∷ (0x3001, 0xD7FF) ∷ (0xF900, 0xFDCF) ∷ (0xFDF0, 0xFFFD) ∷ (0x10000, 0xEFFFF) ∷ []

-- what PN_CHARS has beside them: the low line, the hyphen, digits, the middle dot, combining marks and ties
abbrev pub further_ranges : List (ℕ × ℕ)
further_ranges = (0x5F, 0x5F) ∷ (0x2D, 0x2D) ∷ (0x30, 0x39) ∷ (0xB7, 0xB7) ∷ (0x300, 0x36F) ∷ (0x203F, 0x2040) ∷ []

-- a base letter
abbrev pub is_pn_base : ℕ → Bool
is_pn_base c = list_any (λ range. is_within range c) base_ranges

-- a name character
abbrev pub is_pn_char : ℕ → Bool
is_pn_char c = list_any (λ range. is_within range c) (base_ranges ++ further_ranges)
