use Rattle.std.proofs.Common.{◌≡◌, drop, map, List, [], ℕ}
use Rattle.std.specs.List.{list_any}
use Rattle.std.specs.Str.{bytes_eq}
use Rattle.std.specs.BTreeSet.{contains}
use Rattle.std.specs.Cmp.Lexicographic.{slice_cmp}
use Rattle.std.specs.Ordering.{nat_cmp}
use Rattle.owl_read.specs.Items.{item_of}
use Rattle.owl_read.specs.Rows.{different_at}
use Rattle.owl_read.proofs.scope.Scope.different.Given as goal

abbrev pub invariant-loop-node : goal.invariant-loop-node
invariant-loop-node l = (names : List (List ℕ))
    × ((q : List ℕ) → contains (slice_cmp nat_cmp) l.seen q ≡ list_any (λ (one : List ℕ). bytes_eq one q) names)
    × (different_at names l.self (map item_of (drop l.node-index l.nodes)) ≡ different_at [] l.initial.self (map item_of l.nodes))
