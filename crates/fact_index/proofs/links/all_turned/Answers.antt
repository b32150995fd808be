use Rattle.std.proofs.Common.{◌<◌, length, arith, List, subst}
use Rattle.std.proofs.lemmas.List.{take_all}
use Rattle.fact_index.specs.declared.places.Link.{Link}
use Rattle.fact_index.specs.declared.places.Shape.TheVariants as shape
use Rattle.fact_index.proofs.LinkLaws.{AreTurned, turned_at}
use Rattle.fact_index.proofs.links.all_turned.Goals as goal

pub loop-link-preserved : goal.loop-link-preserved
loop-link-preserved c =
    let within : c.loop-link.link-index < length c.args.links.now = omega arith in
    let first : Link = record { shape = shape.Class; term = record { 0 = 0 }; from = 0; to = 0 } in
    rw (c.in_ok-push.ensures.items, c.turned.ensures) (turned_at c.args.links.now c.loop-link.found.items c.loop-link.link-index first within c.loop-link.invariant)

pub returns : goal.returns
returns c = subst (λ (us : List Link). AreTurned us c.loop-link.found.items) (take_all c.loop-link.link-index c.args.links.now c.loop-link-test.false) c.loop-link.invariant
