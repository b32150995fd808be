use Rattle.std.proofs.Common.{IsTrue, Bool, sym, subst}
use Rattle.std.specs.Prelude.{◌↔◌, Contains}
use Rattle.std.specs.List.Sorted.{IsBinarySearchResult}
use Rattle.std.specs.declared.cmp.Ordering.{Ordering}
use Rattle.dl_base.specs.declared.statements.Fact.{Fact}
use Rattle.dl_base.proofs.OrderLaws.{derived_order}
use Rattle.fact_delta.proofs.SearchLaws.{searched}
use Rattle.fact_delta.proofs.lists.is_in_order.Goals as goal

pub returns : goal.returns
returns c =
    let facts = c.args.facts.now in
    let fact = c.args.fact.now in
    let position = subst (λ (r : Fact → Fact → Ordering). IsBinarySearchResult (λ y. r y fact) facts c.binary_search.result) derived_order c.binary_search.ensures.position in
    subst (λ (b : Bool). IsTrue b ↔ Contains facts fact) (sym c.is_ok.ensures.value) (searched fact facts c.requires c.binary_search.result c.binary_search.ensures.bound position)
