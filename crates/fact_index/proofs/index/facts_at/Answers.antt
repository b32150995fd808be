use Rattle.std.proofs.Common.{◌<◌, length, arith}
use Rattle.fact_index.specs.Numbers.{fact_at}
use Rattle.fact_index.specs.declared.places.Link.{Link}
use Rattle.fact_index.specs.declared.places.Shape.TheVariants as shape
use Rattle.fact_index.proofs.CountLaws.{map_next}
use Rattle.fact_index.proofs.index.facts_at.Goals as goal

pub loop-link-preserved : goal.loop-link-preserved
loop-link-preserved c =
    let within : c.loop-link.link-index < length c.args.links.now = omega arith in
    let first : Link = record { shape = shape.Class; term = record { 0 = 0 }; from = 0; to = 0 } in
    map_next (fact_at c.args.numbers.now) c.args.links.now c.loop-link.link-index first c.loop-link.facts.items c.push.new.self.items _ within c.loop-link.invariant c.in_ok-fact_of.ensures c.in_ok-push.ensures.items
