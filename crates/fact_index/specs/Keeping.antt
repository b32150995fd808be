-- An index with what came to it and what went from it.
use Rattle.std.specs.Prelude.{◌+◌, ◌<◌, ◌^◌, length}
use Rattle.dl_base.specs.FactOrder.{AreSorted}
use Rattle.fact_delta.specs.Deltas.{Over, standing}

-- what stands is in order, and the facts of the index with those that came are fewer than 64 bits count
pub record IsKept (d : Over) : Type 0 where
  pub sorted : AreSorted (standing d)
  pub room : length d.base + length d.came < 2 ^ 64
