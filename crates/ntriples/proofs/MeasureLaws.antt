-- The predicate of class facts is short.
use Rattle.std.proofs.Common.{◌≡◌, ◌≤◌, ℕ, List, length, refl, ap, arith}
use Rattle.std.specs.Prelude.{◌^◌}
use Rattle.triples.specs.Names.{rdf_type}

forty_seven : length rdf_type ≡ 47
unfolding rdf_type
forty_seven = refl

pub type_short : (name : List ℕ) → name ≡ rdf_type → length name ≤ 2 ^ 28
type_short name e = omega (arith, ap length e, forty_seven)
