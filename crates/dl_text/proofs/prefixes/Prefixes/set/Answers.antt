use Rattle.std.proofs.Common.{ℕ, List, ap, ◌∙◌}
use Rattle.dl_text.specs.Prefixes.{Bindings, with_prefix}
use Rattle.dl_text.proofs.PrefixLaws.{bindings_of, bindings_of-insert}
use Rattle.dl_text.proofs.prefixes.Prefixes.set.Goals as goal

pub returns-clause-ok : goal.returns-clause-ok
returns-clause-ok c =
    let old = bindings_of c.self.inside.iris.entries in
    ap bindings_of c.in_ok-insert.ensures.entries ∙ bindings_of-insert c.self.inside.iris.entries c.in_ok-key.key c.in_ok-iri.iri
    ∙ ap (λ (prefix : List ℕ). with_prefix old prefix c.in_ok-iri.iri) c.in_ok-key.ensures.items
    ∙ ap (λ (iri : List ℕ). with_prefix old c.args.prefix.now iri) c.in_ok-iri.ensures
    ∙ ap (λ (bindings : Bindings). with_prefix bindings c.args.prefix.now c.args.iri.now) c.self.view_is
