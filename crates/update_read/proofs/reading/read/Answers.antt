use Rattle.std.proofs.Common.{sym, subst, ℕ, ◌+◌, arith}
use Rattle.update_read.specs.Shapes.{shape_of}
use Rattle.dl_runs.proofs.NameLaws.{none_there}
use Rattle.update_read.proofs.ParseLaws.{IsParsedTo, HasFront, front_of_piece, parsed_none, parsed_more, parsed_all, bad_token}
use Rattle.update_read.proofs.AheadLaws.{nothing_known, known_behind}
use Rattle.update_read.proofs.reading.read.Goals as goal

pub loop-rest-init : goal.loop-rest-init
loop-rest-init c = record { parsed = parsed_none c.args.ontology.now c.args.bytes.now _ (c.start-progress.ensures c.args.ontology.now); prefixless = nothing_known c.args.bytes.now }

pub returns-in-Err : goal.returns-in-Err
returns-in-Err c =
    bad_token c.args.ontology.now c.args.bytes.now c.loop-rest.progress c.loop-rest.line c.loop-rest.rest.now (shape_of c.in-Some.piece) c.in-Some.behind.now c.in-Err.fault c.refusal_of.result c.loop-rest.invariant.parsed
    c.in-Some.ensures c.in-Err.ensures c.refusal_of.ensures

pub slice_bounds-line_ends-count : goal.slice_bounds-line_ends-count
slice_bounds-line_ends-count c =
    let h : HasFront c.loop-rest.rest.now c.in-Some.behind.now = front_of_piece c.loop-rest.rest.now c.in-Some.behind.now (shape_of c.in-Some.piece) c.in-Some.ensures in omega (arith, h.some)

pub loop-rest-smaller : goal.loop-rest-smaller
loop-rest-smaller c = (front_of_piece c.loop-rest.rest.now c.in-Some.behind.now (shape_of c.in-Some.piece) c.in-Some.ensures).some

pub loop-rest-preserved : goal.loop-rest-preserved
loop-rest-preserved c =
    let more = parsed_more c.args.ontology.now c.args.bytes.now c.loop-rest.progress c.in-Ok-advance.then c.loop-rest.line c.loop-rest.rest.now (shape_of c.in-Some.piece) c.in-Ok.token c.in-Some.behind.now
    c.loop-rest.invariant.parsed c.in-Some.ensures c.in-Ok.ensures c.in-Ok-advance.ensures in
    let h : HasFront c.loop-rest.rest.now c.in-Some.behind.now = front_of_piece c.loop-rest.rest.now c.in-Some.behind.now (shape_of c.in-Some.piece) c.in-Some.ensures in
    record {
      parsed = subst (λ (n : ℕ). IsParsedTo c.args.ontology.now c.args.bytes.now c.in-Ok-advance.then (c.loop-rest.line + n) c.in-Some.behind.now) (sym c.line_ends-line.ensures) more;
      prefixless = known_behind c.loop-rest.rest.now h.front c.in-Some.behind.now c.prefixless_to-known.result h.is c.prefixless_to-known.ensures;
    }

pub returns : goal.returns
returns c =
    parsed_all c.args.ontology.now c.args.bytes.now c.loop-rest.progress c.loop-rest.line c.loop-rest.rest.now c.finish.result c.loop-rest.invariant.parsed
    (none_there c.is_empty.result c.loop-rest.rest.now c.is_empty.ensures c.loop-rest-test.false) c.finish.ensures
