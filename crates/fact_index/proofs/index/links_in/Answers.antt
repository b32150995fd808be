use Rattle.std.proofs.Common.{◌<◌, [], ◌∷◌, ◌++◌, length, refl, arith}
use Rattle.dl_base.proofs.Members.{nowhere}
use Rattle.fact_index.specs.Looking.{facts_of}
use Rattle.fact_index.proofs.WholeLaws.{has_none, has_next, has_end}
use Rattle.fact_index.proofs.IndexLaws.{put_within, put_held}
use Rattle.fact_index.proofs.LinkLaws.{put_last}
use Rattle.fact_index.proofs.index.links_in.Goals as goal

pub loop-fact-init : goal.loop-fact-init
loop-fact-init c = rw c.in_ok-links.ensures.items ((λ l m. absurd (nowhere l m)), has_none)

pub loop-fact-preserved : goal.loop-fact-preserved
loop-fact-preserved c =
    let within : c.loop-fact.fact-index < length c.args.facts.now = omega arith in
    let before = c.loop-fact.numbers in
    let now = c.link_in.new.self in
    let links = c.loop-fact.links.items in
    let link = c.in_ok-link_in.field-0 in
    let fact = c.fact-item.result in
    let grown = c.in_ok-link_in.ensures.grown in
    let linked = c.in_ok-link_in.ensures.linked in
    let more = links ++ link ∷ [] in
    let put = put_last link links in
    rw c.in_ok-push.ensures.items (
      put_within before now grown links c.loop-fact.invariant.0 fact link linked more put,
      has_next c.args.facts.now c.loop-fact.fact-index fact fact (facts_of before links) (facts_of now more) within c.fact-item.is refl
          (put_held before now grown links c.loop-fact.invariant.0 fact link linked more put)
          c.loop-fact.invariant.1,
    )

pub returns-clause-same : goal.returns-clause-same
returns-clause-same c = has_end c.args.facts.now c.loop-fact.fact-index (facts_of c.loop-fact.numbers c.loop-fact.links.items) c.loop-fact-test.false c.loop-fact.invariant.1
