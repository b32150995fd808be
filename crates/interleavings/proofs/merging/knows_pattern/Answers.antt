use Rattle.std.proofs.Common.{◌∙◌, subst}
use Rattle.dl_base.specs.Ontologies.{Theory, KnowsPattern}
use Rattle.interleavings.proofs.merging.knows_pattern.Goals as goal

pub returns : goal.returns
returns c = λ t b has.
    subst (λ (th : Theory). KnowsPattern th c.args.pattern.now) (c.ontology.ensures ∙ c.deref.ensures ∙ c.rules.ensures.own b has) (c.knows_pattern.ensures.0 t)
