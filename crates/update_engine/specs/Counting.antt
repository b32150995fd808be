-- How many steps on the set a request takes.
use Rattle.std.specs.Prelude.{ℕ, ◌+◌, ◌*◌}

-- the most steps in which the facts that meet are found, for a request of r facts, with n terms and m facts that meet
abbrev pub most_to_find : ℕ → ℕ → ℕ → ℕ
most_to_find n r m = 8 * n * r + 8 * r * m

-- the most steps of a request of r facts, with n terms and m facts of the set that meet
abbrev pub most_steps : ℕ → ℕ → ℕ → ℕ
most_steps n r m = 8 * n * (r + m) + 8 * r * m + r
