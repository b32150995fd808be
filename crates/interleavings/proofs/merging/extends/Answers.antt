use Rattle.std.proofs.Common.{◌∙◌, subst}
use Rattle.dl_base.specs.Ontologies.{Theory, Extends}
use Rattle.interleavings.proofs.merging.extends.Goals as goal

pub returns : goal.returns
returns c = λ t.
    let force = c.ontology.ensures ∙ c.deref.ensures ∙ c.in_force.ensures in
    (c.terms-terms.ensures.sound, subst (λ (th : Theory). Extends c.args.ontology.now th) force (c.extends.ensures.0 t))
