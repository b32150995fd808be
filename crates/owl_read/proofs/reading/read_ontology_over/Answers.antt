use Rattle.std.proofs.Common.{◌++◌, List, ℕ, sym, subst, ap, ◌∙◌}
use Rattle.dl_base.specs.Ontologies.{Theory}
use Rattle.dl_base.specs.declared.terms.Kind.{Kind}
use Rattle.owl_read.specs.Held.{held}
use Rattle.owl_read.specs.Scopes.{IsSound}
use Rattle.owl_read.proofs.DocumentLaws.{reads_holds, reads_extends, holds_ontology}
use Rattle.owl_read.proofs.reading.read_ontology_over.Goals as goal

pub made-requires : goal.made-requires
made-requires c =
    let terms = c.entries.ensures.terms in
    let sound : IsSound c.entries.result.now = subst IsSound (sym terms) (record { once = c.entries.ensures.sound.named_once; few = c.entries.ensures.sound.few }) in
    let h = reads_holds c.entries.result.now c.args.bytes.now (held c.in_ok-scope.field-0) sound c.in_ok-scope.ensures in
    holds_ontology (held c.in_ok-scope.field-0) h.0 h.1

pub returns-in-Some-clause-extends : goal.returns-in-Some-clause-extends
returns-in-Some-clause-extends c =
    let e = reads_extends c.entries.result.now c.args.bytes.now (held c.in_ok-scope.field-0) c.in_ok-scope.ensures in
    (e.0, ap (λ (t : Theory). t.terms) c.in_ok-ontology.ensures ∙ e.1 ∙ ap (λ (ts : List (List ℕ × Kind)). ts ++ e.0) c.entries.ensures.terms)
