use Rattle.std.proofs.Common.{List, ℕ, subst}
use Rattle.std.specs.Prelude.{Err}
use Rattle.dl_text.specs.declared.refusals.ReadRefusal.{ReadRefusal}
use Rattle.dl_text.specs.declared.refusals.ReadRefusal.TheVariants.{Refused}
use Rattle.owl_read.specs.Documents.{Reads}
use Rattle.dlupdate.specs.Runs.{IsUnread, NoRefusal, ontology_limit, RefusesOntology}
use Rattle.dlupdate.proofs.RunLaws.{stop_more, unread_more, refused_stop}
use Rattle.dlupdate.proofs.files.ontology_in.Goals as goal

pub returns-in-Err-clause-stopped : goal.returns-in-Err-clause-stopped
returns-in-Err-clause-stopped g c =
    stop_more (g.F.Files.contents c.args.files.now) (λ k. IsUnread k c.args.name.now ontology_limit NoRefusal) (λ k. IsUnread k c.args.name.now ontology_limit RefusesOntology) c.in-Err.stop (λ k status printed h. unread_more k c.args.name.now ontology_limit RefusesOntology status printed h) c.in-Err.ensures.stopped

pub returns-clause-stopped : goal.returns-clause-stopped
returns-clause-stopped g c =
    refused_stop (g.F.Files.contents c.args.files.now) c.args.name.now ontology_limit c.in-Ok.bytes.items RefusesOntology c.in-Err-read_ontology.refusal c.refused_file.result c.in-Ok.ensures.ok
    (λ line kind e. subst (λ (bs : List ℕ). Reads bs (Err (Refused line kind))) c.as_slice.ensures.value (subst (λ (w : ReadRefusal). Reads c.as_slice.result.now (Err w)) e c.in-Err-read_ontology.ensures.read)) c.refused_file.ensures
