use Rattle.std.proofs.Common.{◌∙◌}
use Rattle.fact_index.proofs.whole.all_of.Goals as goal

pub all-requires-2 : goal.all-requires-2
all-requires-2 c = c.as_slice.ensures.value ∙ c.in_ok-of_base.ensures ∙ c.base.ensures
