use Rattle.std.proofs.Common.{List, sym, ◌∙◌, subst}
use Rattle.std.specs.Prelude.{Contains}
use Rattle.std.proofs.lemmas.List.Elements.{All-from_recursion}
use Rattle.dl_base.specs.declared.statements.Fact.{Fact}
use Rattle.dl_base.specs.Ontologies.{Theory, Knows}
use Rattle.dl_base.proofs.SortedLaws.{all_of}
use Rattle.transaction.specs.Worlds.{theory_of}
use Rattle.interleavings.proofs.merging.knows.Goals as goal

pub returns : goal.returns
returns c = λ t b has.
    let theory = c.deref.ensures ∙ c.rules.ensures.own b has in
    let known = c.knows_all.ensures.0 t in
    let own : Theory = theory_of c.args.world.now b in
    All-from_recursion (Knows own) c.args.facts.now
    (all_of (Knows own) c.args.facts.now (λ f m. subst (λ (th : Theory). Knows th f) theory (known f (subst (λ (fs : List Fact). Contains fs f) (sym c.as_slice.ensures) m))))
