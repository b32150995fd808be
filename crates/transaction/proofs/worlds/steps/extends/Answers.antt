use Rattle.std.proofs.Common.{◌∙◌, ap, subst}
use Rattle.dl_base.specs.Histories.{in_force}
use Rattle.dl_base.specs.Ontologies.{Theory, Extends}
use Rattle.transaction.specs.Worlds.{State}
use Rattle.transaction.proofs.worlds.steps.extends.Goals as goal

pub returns : goal.returns
returns c = λ t.
    let force = c.ontology.ensures ∙ c.deref.ensures ∙ c.rules.ensures ∙ ap (λ (s : State). in_force s.opening s.entries) c.world.view_is in
    (c.terms-terms.ensures.sound, subst (λ (th : Theory). Extends c.args.ontology.now th) force (c.extends.ensures.0 t))
