use Rattle.std.proofs.Common.{List, ◌+◌, sym, subst, inl, inr, refl, Err}
use Rattle.dl_base.specs.declared.statements.Fact.{Fact}
use Rattle.dl_text.specs.declared.refusals.ReadRefusal.{ReadRefusal}
use Rattle.ntriples.specs.Files.{ReadsLines, SaysFacts}
use Rattle.ntriples.proofs.FileLaws.{IsReadTo, read_none, read_more, all_read, line_refused}
use Rattle.ntriples.proofs.files.read_lines.Goals as goal

pub loop-front-init : goal.loop-front-init
loop-front-init c = subst (λ (zs : List Fact). IsReadTo c.args.ontology.now c.args.bytes.now zs 0 1 c.args.bytes.now) (sym c.new-facts.ensures) (read_none c.args.ontology.now c.args.bytes.now)

pub returns-in-Err : goal.returns-in-Err
returns-in-Err c =
    subst (λ (r : ReadRefusal). ReadsLines c.args.ontology.now c.args.bytes.now (Err r)) (sym c.at.ensures)
    (line_refused c.args.ontology.now c.args.bytes.now c.loop-front.facts c.loop-front.skipped c.loop-front.line c.loop-front.rest.now c.in-Some.front.now c.in-Err.fault c.loop-front.invariant
    (c.in-Some.ensures.2, inr (c.in-Some.end, c.in-Some.behind.now, c.in-Some.ensures.1, c.in-Some.ensures.0)) c.in-Err.ensures)

pub loop-front-preserved : goal.loop-front-preserved
loop-front-preserved c =
    read_more c.args.ontology.now c.args.bytes.now c.loop-front.facts c.loop-front.skipped c.loop-front.line c.loop-front.rest.now c.in-Some.front.now c.in-Some.behind.now c.in-Some.end c.in-Ok.it
    c.keep.new.facts c.in-Ok-keep.more c.number_after-line.result c.loop-front.invariant c.in-Some.ensures.0 c.in-Some.ensures.1 c.in-Some.ensures.2 c.in-Ok.ensures
    c.in-Ok-keep.ensures.facts c.in-Ok-keep.ensures.skipped c.in-Ok-keep.ensures.at_most c.number_after-line.ensures.value c.number_after-line.ensures.at_most

pub returns-in-Err-line_says : goal.returns-in-Err-line_says
returns-in-Err-line_says c =
    subst (λ (r : ReadRefusal). ReadsLines c.args.ontology.now c.args.bytes.now (Err r)) (sym c.at-in-Err-line_says.ensures)
    (line_refused c.args.ontology.now c.args.bytes.now c.loop-front.facts c.loop-front.skipped c.loop-front.line c.loop-front.rest.now c.loop-front.rest.now c.in-Err-line_says.fault c.loop-front.invariant
    (c.in_default.ensures, inl refl) c.in-Err-line_says.ensures)

pub returns-in_ok-into_facts-in-Ok-keep-2 : goal.returns-in_ok-into_facts-in-Ok-keep-2
returns-in_ok-into_facts-in-Ok-keep-2 c =
    subst (λ (zs : List Fact). SaysFacts c.args.ontology.now c.args.bytes.now zs (c.loop-front.skipped + c.in-Ok-keep-2.more)) (sym c.in_ok-into_facts-in-Ok-keep-2.ensures)
    (all_read c.args.ontology.now c.args.bytes.now c.loop-front.facts c.loop-front.skipped c.loop-front.line c.loop-front.rest.now c.in-Ok-line_says.it c.keep-2.new.facts c.in-Ok-keep-2.more
    c.loop-front.invariant c.in_default.ensures c.in-Ok-line_says.ensures c.in-Ok-keep-2.ensures.facts c.in-Ok-keep-2.ensures.skipped)
