use Rattle.std.proofs.Common.{sym, ◌∙◌, ap}
use Rattle.fact_delta.specs.Deltas.{Over, standing}
use Rattle.fact_delta.proofs.FindLaws.{all_is}
use Rattle.fact_delta.proofs.delta.Delta.all.Goals as goal

pub returns : goal.returns
returns g c =
    let w = c.self.inside in
    let d : Over = record { base = g.S.FactSet.facts w.base; came = w.came.items; went = w.went.items } in
    all_is d c.self.invariant c.args.of_base.now c.in_ok-all.all.items c.in_ok-copies_of.field-0.items c.append.new.self.items c.in_ok-all-2.all.items c.as_slice.result.now c.as_slice-2.result.now
    (c.requires ∙ sym (ap (λ (o : Over). o.base) c.self.view_is)) c.as_slice.ensures.value c.as_slice-2.ensures.value
    c.in_ok-all.ensures c.in_ok-copies_of.ensures c.in_ok-append.ensures.items c.in_ok-all-2.ensures.same c.in_ok-all-2.ensures.sorted
    ∙ ap standing c.self.view_is
