use Rattle.std.proofs.Common.{List, sym, ◌∙◌, ap, subst}
use Rattle.std.specs.Prelude.{Contains}
use Rattle.std.proofs.lemmas.List.Elements.{All-from_recursion}
use Rattle.dl_base.specs.declared.statements.Fact.{Fact}
use Rattle.dl_base.specs.Ontologies.{Theory, Knows}
use Rattle.dl_base.proofs.SortedLaws.{all_of}
use Rattle.transaction.proofs.transactions.tests.knows.Goals as goal

pub returns : goal.returns
returns c = λ t.
    let theory = c.deref.ensures ∙ c.rules.ensures in
    let known = c.knows_all.ensures.0 t in
    All-from_recursion (Knows c.args.transaction.now.ontology) c.args.facts.now
    (all_of (Knows c.args.transaction.now.ontology) c.args.facts.now (λ f m. subst (λ (th : Theory). Knows th f) theory (known f m)))
