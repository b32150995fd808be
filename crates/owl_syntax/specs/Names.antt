-- What the set of the names of prefix lines has. No public contract names it.
use Rattle.std.specs.Prelude.{◌≡◌, ℕ, List}
use Rattle.std.specs.Cmp.Lexicographic.{slice_cmp}
use Rattle.std.specs.List.{list_any}
use Rattle.std.specs.Ordering.{nat_cmp, is_eq}
use Rattle.owl_syntax.specs.declared.nodes.PrefixLine.{PrefixLine}
use Rattle.owl_syntax.specs.Grammar.{has_name}

-- the keys are the names of the lines
abbrev pub HasSameNames : List PrefixLine → List (List ℕ) → Type 0
HasSameNames lines keys = (x : List ℕ) → has_name lines x ≡ list_any (λ (key : List ℕ). is_eq (slice_cmp nat_cmp x key)) keys
