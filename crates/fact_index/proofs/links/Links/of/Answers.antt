use Rattle.std.proofs.Common.{List, subst}
use Rattle.fact_index.specs.declared.places.Link.{Link}
use Rattle.fact_index.proofs.LinkLaws.{AreTurned, both_ways}
use Rattle.fact_index.proofs.links.Links.of.Goals as goal

pub invariant_of-result : goal.invariant_of-result
invariant_of-result c = both_ways c.args.links.items c.in_ok-turned.turned.items _ _ c.in_ok-in_order.ensures c.in_ok-in_order-2.ensures (subst (λ (us : List Link). AreTurned us c.in_ok-turned.turned.items) c.as_slice.ensures.value c.in_ok-turned.ensures)
