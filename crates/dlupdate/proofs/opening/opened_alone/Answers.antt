use Rattle.std.proofs.Common.{None, subst}
use Rattle.dl_base.specs.Ontologies.{Theory}
use Rattle.dlupdate.specs.Opening.{IsContradicted}
use Rattle.dlupdate.proofs.OpeningLaws.{base_of, no_ontology_stop, contradicted_stop}
use Rattle.dlupdate.proofs.opening.opened_alone.Goals as goal

pub returns-in-Err-clause-stopped : goal.returns-in-Err-clause-stopped
returns-in-Err-clause-stopped g c = no_ontology_stop (g.F.Files.contents c.args.files.now) c.args.ontology.now None c.in-Err.stop c.in-Err.ensures.stopped

pub returns-in-Ok-open-clause-base : goal.returns-in-Ok-open-clause-base
returns-in-Ok-open-clause-base g c = base_of c.in-Ok.read.ontology c.in-Ok.read.facts.items c.in-Ok.read.skipped c.in-Ok-open.it c.in-Ok-open.ensures.opens c.in-Ok-open.ensures.known

pub returns-clause-stopped : goal.returns-clause-stopped
returns-clause-stopped g c =
    contradicted_stop (g.F.Files.contents c.args.files.now) c.args.ontology.now None c.in-Ok.read.ontology c.in-Ok.read.facts.items c.in-Ok.read.skipped c.in-Err-open.refusal c.contradicting.result c.in-Ok.ensures.ok c.in-Err-open.ensures.opens
    (subst (λ (t : Theory). IsContradicted t c.in-Err-open.refusal c.contradicting.result) c.in_ok-kept.ensures c.contradicting.ensures)
