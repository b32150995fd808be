use Rattle.std.proofs.Common.{◌<◌, length, arith}
use Rattle.fact_index.specs.declared.places.Link.{Link}
use Rattle.fact_index.specs.declared.places.Shape.TheVariants as shape
use Rattle.fact_index.proofs.FoundLaws.{found_none, found_next, found_end}
use Rattle.fact_index.proofs.index.found_among.Goals as goal

pub loop-link-init : goal.loop-link-init
loop-link-init c = rw c.new-found.ensures.items (found_none c.args.numbers.now c.args.pattern.now)

pub loop-link-preserved : goal.loop-link-preserved
loop-link-preserved c =
    let within : c.loop-link.link-index < length c.args.links.now = omega arith in
    let first : Link = record { shape = shape.Class; term = record { 0 = 0 }; from = 0; to = 0 } in
    found_next c.args.numbers.now c.args.pattern.now c.args.links.now c.loop-link.link-index first within c.in_ok-fact.fact c.loop-link.found.items c.push_if.new.found.items c.in_ok-fact.ensures c.in_ok-push_if.ensures c.loop-link.invariant

pub returns : goal.returns
returns c = found_end c.args.numbers.now c.args.pattern.now c.args.links.now c.loop-link.link-index c.loop-link.found.items c.loop-link-test.false c.loop-link.invariant
