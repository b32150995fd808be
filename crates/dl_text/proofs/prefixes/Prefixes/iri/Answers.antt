use Rattle.std.proofs.Common.{ap, ◌∙◌}
use Rattle.dl_text.specs.Prefixes.{Bindings, iri_of}
use Rattle.dl_text.proofs.PrefixLaws.{looked_up}
use Rattle.dl_text.proofs.prefixes.Prefixes.iri.Goals as goal

pub returns : goal.returns
returns c =
    c.get.ensures.value ∙ looked_up c.self.inside.iris.entries c.args.prefix.now
    ∙ ap (λ (bindings : Bindings). iri_of bindings c.args.prefix.now) c.self.view_is
