-- Rows of bits, a bit for each node.
use Rattle.std.specs.Prelude.{◌≡◌, ℕ, ◌<◌, ◌+◌, ◌-◌, ◌/◌, ◌%◌, ◌^◌, List, [], length, slice_index_or, sum_by, bit_or}
use Rattle.std.specs.Int.{bit_at}

-- the bit of node k is set
abbrev pub IsMarked : List ℕ → ℕ → Type 0
IsMarked words k = bit_at (slice_index_or words (k / 64) 0) (k % 64) ≡ 1

-- each word has the bits of both
abbrev pub IsUnion : List ℕ → List ℕ → List ℕ → Type 0
IsUnion new a b = (w : ℕ) → slice_index_or new w 0 ≡ bit_or (slice_index_or a w 0) (slice_index_or b w 0)

abbrev pub row : List (List ℕ) → ℕ → List ℕ
row rows i = slice_index_or rows i []

-- what the words may still grow by
abbrev pub spare : List ℕ → ℕ
spare words = sum_by (λ w. 2 ^ 64 - w) words

abbrev pub all_spare : List (List ℕ) → ℕ
all_spare rows = sum_by spare rows

-- each row has room for n bits
abbrev pub AreWide : ℕ → List (List ℕ) → Type 0
AreWide n rows = (i : ℕ) → i < length rows → length (row rows i) ≡ n / 64 + 1
