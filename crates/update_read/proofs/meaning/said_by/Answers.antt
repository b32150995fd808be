use Rattle.std.proofs.Common.{ℕ, List, ap, ◌∙◌}
use Rattle.triples.specs.Meaning.{said_of}
use Rattle.update_read.specs.Grammar.{Statement}
use Rattle.update_read.proofs.MeaningLaws.{predicate_fails, object_fails, whole_fails}
use Rattle.update_read.proofs.meaning.said_by.Goals as goal

pub returns-in-Err-verb_name : goal.returns-in-Err-verb_name
returns-in-Err-verb_name c =
    let st : Statement = record { bindings = c.args.prefixes.now; stem = c.args.stem.now; object = c.args.object.now } in
    predicate_fails c.args.ontology.now st c.in-Ok.name c.in-Err-verb_name.refusal c.in-Ok.ensures c.in-Err-verb_name.ensures

pub returns-in-Err-object_of : goal.returns-in-Err-object_of
returns-in-Err-object_of c =
    let st : Statement = record { bindings = c.args.prefixes.now; stem = c.args.stem.now; object = c.args.object.now } in
    object_fails c.args.ontology.now st c.in-Ok.name c.in-Ok-verb_name.name c.in-Err-object_of.refusal c.in-Ok.ensures c.in-Ok-verb_name.ensures c.in-Err-object_of.ensures

pub returns : goal.returns
returns c =
    let st : Statement = record { bindings = c.args.prefixes.now; stem = c.args.stem.now; object = c.args.object.now } in
    whole_fails c.args.ontology.now st c.in-Ok.name c.in-Ok-verb_name.name c.in-Ok-object_of.meant c.in-Err-fact_of.fault c.object_line.result c.kind.result c.in-Ok.ensures c.in-Ok-verb_name.ensures c.in-Ok-object_of.ensures
    (c.in-Err-fact_of.ensures.said ∙ ap (λ (p : List ℕ). said_of c.args.ontology.now c.in-Ok.name p c.in-Ok-object_of.meant) c.as_slice.ensures.value) c.object_line.ensures c.kind.ensures
