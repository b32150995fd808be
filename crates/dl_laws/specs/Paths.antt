-- Paths in a list of edges.
use Rattle.std.specs.Prelude.{ℕ, List, Contains}

-- edges lead from the first node to the second
pub data Path (edges : List (ℕ × ℕ)) : ℕ → ℕ → Type 0 where
  itself : (i : ℕ) → Path edges i i
  further : (i j k : ℕ) → Path edges i j → Contains edges (j, k) → Path edges i k
