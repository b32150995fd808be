use Rattle.std.proofs.Common.{ℕ, List, sym, ap, ◌∙◌, subst}
use Rattle.ntriples.specs.Printing.{iri, line, triple}
use Rattle.triples.specs.Names.{rdf_type}
use Rattle.ntriples.specs.Writing.{IsPut}
use Rattle.ntriples.proofs.writing.write_line.Goals as goal

pub returns-in-Class : goal.returns-in-Class
returns-in-Class g c =
    subst (λ (zs : List ℕ). IsPut (g.K.Sink.written c.args.sink.now) (g.K.Sink.written c.put_link.new.sink) (g.K.Sink.faults c.args.sink.now) (g.K.Sink.faults c.put_link.new.sink) zs c.put_link.result)
    (ap (λ (zs : List ℕ). triple zs c.rdf_type.result.now (iri c.name.result.now)) c.as_slice.ensures.value ∙ ap (λ (zs : List ℕ). triple c.in-Class.a zs (iri c.name.result.now)) c.rdf_type.ensures ∙ ap (λ (zs : List ℕ). triple c.in-Class.a rdf_type (iri zs)) c.name.ensures.value ∙ ap (line c.args.ontology.now) (sym c.in-Class.is)) c.put_link.ensures
