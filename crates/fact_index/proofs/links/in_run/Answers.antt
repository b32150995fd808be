use Rattle.std.proofs.Common.{◌≡◌, List, ◌++◌, ◌∷◌, sym, ◌∙◌, ap, map, refl}
use Rattle.std.proofs.lemmas.List.{map-append}
use Rattle.std.proofs.lemmas.Map.Iter.{iter_end, rest_so_far}
use Rattle.std.proofs.lemmas.Bool.{false≢true}
use Rattle.std.specs.Map.Iter.{deref}
use Rattle.fact_index.specs.declared.places.Link.{Link}
use Rattle.fact_index.proofs.RunLaws.{from_least, found_none, found_more, found_all, found_until}
use Rattle.fact_index.proofs.links.in_run.Goals as goal

pub loop-link-init : goal.loop-link-init
loop-link-init c = rw c.new-found.ensures.items (found_none c.args.run.now)

pub returns-then-not-has : goal.returns-then-not-has
returns-then-not-has c =
    let ys = map deref c.loop-link.yielded in
    let zs = c.next.new.self in
    let is : from_least c.args.run.now c.args.links.now.keys ≡ ys ++ c.in-Some.link.now ∷ zs =
    sym (rw c.least-least.ensures at (c.range-link-items.ensures.between tt)) ∙ sym c.into_iter-link-iterator.ensures.into_iter_gives ∙ rest_so_far deref c.loop-link.yielded c.into_iter-link-iterator.result c.loop-link.link-iterator c.loop-link.yielded_by ∙ ap (λ (us : List Link). ys ++ us) c.in-Some.ensures.steps in
    found_until c.args.run.now c.args.links.now.keys c.loop-link.found.items ys zs c.in-Some.link.now c.range-link-items.ensures.ordered is (λ i. false≢true (c.if-not-has.ensures.1 i)) c.loop-link.invariant

pub loop-link-preserved : goal.loop-link-preserved
loop-link-preserved c =
    rw (c.in_ok-push.ensures.items, map-append deref)
    (found_more c.args.run.now _ _ _ c.loop-link.invariant (c.if-not-has.ensures.0 refl))

pub returns : goal.returns
returns c =
    let e = iter_end deref c.range-link-items.result c.loop-link.yielded c.into_iter-link-iterator.result c.loop-link.link-iterator c.next.new.self c.next.result c.into_iter-link-iterator.ensures.into_iter_gives c.loop-link.yielded_by c.in-None.is c.next.ensures.steps in
    found_all c.args.run.now c.args.links.now.keys c.loop-link.found.items _ (e.0 ∙ rw c.least-least.ensures at (c.range-link-items.ensures.between tt)) c.loop-link.invariant
