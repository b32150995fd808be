use Rattle.std.proofs.Common.{◌∙◌}
use Rattle.std.specs.BTreeSet.{IsFromIterResult}
use Rattle.std.specs.Prelude.{Ok}
use Rattle.std.proofs.lemmas.Iterator.Adapters.{fact_from_collect, YieldsList-from_vec}
use Rattle.fact_index.proofs.LinkOrder.{link_cmp}
use Rattle.fact_index.proofs.LinkLaws.{made_of}
use Rattle.fact_index.proofs.links.in_order.Goals as goal

pub returns : goal.returns
returns c =
    let links = c.args.links.items in
    let set = c.in_ok-set.set in
    made_of links set (fact_from_collect {E = Unit {0}} (IsFromIterResult link_cmp) (Ok set) c.in_ok-set.ensures.ran (YieldsList-from_vec links c.into_iter.ensures.rest (c.into_iter.ensures.len ∙ c.args.links.ok.0)))
