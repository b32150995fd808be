use Rattle.std.proofs.Common.{◌∙◌, ap, map}
use Rattle.fact_index.specs.Numbers.{fact_at}
use Rattle.fact_index.proofs.CountLaws.{all_held}
use Rattle.fact_index.proofs.index.Index.all.Goals as goal

pub facts_at-requires : goal.facts_at-requires
facts_at-requires c = rw (c.as_slice.ensures.value, c.in_ok-links.ensures) c.self.invariant

pub returns : goal.returns
returns c =
    rw (← c.self.view_is)
    (all_held c.self.inside.numbers c.self.inside.links c.in_ok-found.found.items c.in_ok-ordered.ordered.items (c.in_ok-found.ensures ∙ ap (map (fact_at c.self.inside.numbers)) (c.as_slice.ensures.value ∙ c.in_ok-links.ensures)) c.in_ok-ordered.ensures.sorted c.in_ok-ordered.ensures.same)
