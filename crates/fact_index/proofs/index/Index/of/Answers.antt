use Rattle.std.proofs.Common.{sym, subst}
use Rattle.std.specs.Prelude.{Contains, ◌↔◌}
use Rattle.dl_base.specs.declared.statements.Fact.{Fact}
use Rattle.fact_index.specs.Looking.{facts_of}
use Rattle.fact_index.specs.Numbers.{Numbered, IsWithin}
use Rattle.fact_index.proofs.IndexLaws.{same_links}
use Rattle.fact_index.proofs.index.Index.of.Goals as goal

pub invariant_of-index-2 : goal.invariant_of-index-2
invariant_of-index-2 c = λ l m. subst (λ (n : Numbered). IsWithin n l) (sym c.numbers.view_is) (c.in_ok-links.ensures.within l ((c.in_ok-of.ensures l).0 m))

pub returns-clause-same : goal.returns-clause-same
returns-clause-same c =
    let links = c.in_ok-links.links.items in
    let made = c.in_ok-of.field-0 in
    let facts = c.args.facts.now in
    subst (λ (n : Numbered). (f : Fact) → Contains (facts_of n made) f ↔ Contains facts f) (sym c.numbers.view_is) (same_links c.links_in.new.numbers links made facts c.in_ok-of.ensures c.in_ok-links.ensures.same)
