-- Facts by numbers, and where they are looked for.
use Rattle.std.specs.Prelude.{◌≡◌, ℕ, ◌↔◌, List, Option, Some, None, Contains}
use Rattle.fact_index.specs.declared.places.Link.{Link}
use Rattle.fact_index.specs.declared.places.Run.{Run}
use Rattle.fact_index.specs.declared.places.Place.{Place}
use Rattle.fact_index.specs.declared.places.Place.TheVariants as place

-- the link, its two numbers exchanged
abbrev pub turned : Link → Link
turned l = record { shape = l.shape; term = l.term; from = l.to; to = l.from }

-- the second list has exactly the links of the first, turned round
pub record AreBothWays (forth back : List Link) : Type 0 where
  pub each : (l : Link) → Contains back l ↔ Contains forth (turned l)

-- the number is the given one, where one is given
abbrev pub IsGiven : Option ℕ → ℕ → Type 0
IsGiven None n = Unit {0}
IsGiven (Some m) n = m ≡ n

-- the given number, or 0
abbrev pub given_or_least : Option ℕ → ℕ
given_or_least None = 0
given_or_least (Some m) = m

-- the link has the term of the run, and its first number where the run has one
abbrev pub IsIn : Run → Link → Type 0
IsIn r l = (r.shape ≡ l.shape) × (r.term ≡ l.term) × IsGiven r.from l.from

-- the least link that the run can have
abbrev pub least_of : Run → Link
least_of r = record { shape = r.shape; term = r.term; from = given_or_least r.from; to = 0 }

-- the link stands at the place
abbrev pub IsAt : Place → Link → Type 0
IsAt (place.Forth r) l = IsIn r l
IsAt (place.Back r) l = IsIn r (turned l)
IsAt (place.One m) l = m ≡ l
