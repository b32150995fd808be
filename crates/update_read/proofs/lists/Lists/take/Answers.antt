use Rattle.std.proofs.Common.{arith, subst, Err}
use Rattle.dl_text.specs.declared.refusals.ReadRefusal.{ReadRefusal}
use Rattle.update_read.specs.Grammar.{Statement}
use Rattle.update_read.specs.Taking.{ReadsTriple}
use Rattle.update_read.proofs.MeaningLaws.{too_many, failed, taken}
use Rattle.update_read.proofs.lists.Lists.take.Goals as goal

pub returns-then-self-ge-MOST_TRIPLES : goal.returns-then-self-ge-MOST_TRIPLES
returns-then-self-ge-MOST_TRIPLES c ts g = too_many c.args.ontology.now _ ts c.args.self c.object_line.result g (omega arith) c.object_line.ensures

pub returns-in-Ok : goal.returns-in-Ok
returns-in-Ok c ts g = taken c.args.ontology.now _ ts c.args.self c.in-Ok.said c.in_ok-put-in-Ok.field-0 g c.in-Ok.ensures c.in_ok-put-in-Ok.ensures

pub returns-in-Err-Refused : goal.returns-in-Err-Refused
returns-in-Err-Refused c ts g =
    let st : Statement = record { bindings = c.args.prefixes.now; stem = c.args.stem.now; object = c.args.object.now } in
    failed c.args.ontology.now st ts c.args.self c.in-Err-Refused.line c.in-Err-Refused.kind g (omega arith)
    (subst (λ (r : ReadRefusal). ReadsTriple c.args.ontology.now st (Err r)) c.in-Err-Refused.field-0-is c.in-Err-Refused.ensures)
