use Rattle.std.proofs.Common.{[], sym, subst, List}
use Rattle.std.specs.Prelude.{Contains}
use Rattle.std.proofs.lemmas.List.Elements.{All-contains}
use Rattle.dl_base.specs.Ontologies.{Theory, Knows}
use Rattle.dl_base.specs.declared.statements.Fact.{Fact}
use Rattle.owl_read.specs.Documents.{theory_of}
use Rattle.owl_read.specs.Held.{held}
use Rattle.owl_read.proofs.DocumentLaws.{nothing_sound, reads_holds, holds_ontology, holds_facts}
use Rattle.owl_read.proofs.reading.read_ontology.Goals as goal

pub made-requires : goal.made-requires
made-requires c =
    let h = reads_holds [] c.args.bytes.now (held c.in_ok-scope.field-0) nothing_sound c.in_ok-scope.ensures in
    holds_ontology (held c.in_ok-scope.field-0) h.0 h.1

pub returns-clause-known : goal.returns-clause-known
returns-clause-known c f m =
    let r = held c.in_ok-scope.field-0 in
    let h = reads_holds [] c.args.bytes.now r nothing_sound c.in_ok-scope.ensures in
    subst (λ (t : Theory). Knows t f) (sym c.in_ok-ontology.ensures)
    (All-contains (Knows (theory_of r)) r.facts f (holds_facts r h.0) (subst (λ (fs : List Fact). Contains fs f) c.as_slice.ensures.value ((c.in_ok-once.ensures.same f).0 m)))
