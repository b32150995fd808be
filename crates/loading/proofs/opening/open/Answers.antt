use Rattle.std.proofs.Common.{List, refl, sym, ◌∙◌, subst}
use Rattle.dl_base.specs.declared.statements.Fact.{Fact}
use Rattle.dl_base.specs.Clash.{IsConsistent}
use Rattle.dl_base.specs.Ontologies.{Theory, Knows}
use Rattle.std.specs.Prelude.{Contains}
use Rattle.loading.proofs.opening.open.Goals as goal

pub contradiction-requires : goal.contradiction-requires
contradiction-requires c = λ f m. subst (λ (t : Theory). Knows t f) (sym c.in_ok-rules.ensures) (c.requires.known f (subst (λ (fs : List Fact). Contains fs f) c.as_slice.ensures.value m))

pub returns-clause-opens : goal.returns-clause-opens
returns-clause-opens c =
    let consistent = subst (λ (fs : List Fact). IsConsistent c.in_ok-rules.rules.axioms fs) c.as_slice.ensures.value c.in_default.ensures in
    record {
      ontology = c.ontology.view_is;
      rules = c.in_ok-new.ensures.ok ∙ c.in_ok-rules.ensures;
      facts_are = refl;
      skipped_are = refl;
      consistent = subst (λ (t : Theory). IsConsistent t.axioms c.args.facts.items) c.in_ok-rules.ensures consistent;
    }
