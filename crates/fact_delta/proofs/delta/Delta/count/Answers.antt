use Rattle.std.proofs.Common.{◌≡◌, ◌+◌, ◌≤◌, length, sym, ◌∙◌, ap, arith}
use Rattle.fact_delta.specs.Deltas.{Over, standing}
use Rattle.fact_delta.proofs.StandingLaws.{standing_length, went_few}
use Rattle.fact_delta.proofs.delta.Delta.count.Goals as goal

pub overflow_sub-result : goal.overflow_sub-result
overflow_sub-result g c =
    let w = c.self.inside in
    let d : Over = record { base = g.S.FactSet.facts w.base; came = w.came.items; went = w.went.items } in
    let few : length w.went.items ≤ length d.base = went_few d c.self.invariant in
    let same : length d.base ≡ c.args.of_base = ap (λ (o : Over). length o.base) c.self.view_is ∙ sym c.requires.base in
    omega (arith, few, same, c.len.ensures)

pub returns : goal.returns
returns g c =
    let w = c.self.inside in
    let d : Over = record { base = g.S.FactSet.facts w.base; came = w.came.items; went = w.went.items } in
    let few : length w.went.items ≤ length d.base = went_few d c.self.invariant in
    let all : length w.went.items + length (standing d) ≡ length d.base + length w.came.items = standing_length d c.self.invariant in
    let same : length d.base ≡ c.args.of_base = ap (λ (o : Over). length o.base) c.self.view_is ∙ sym c.requires.base in
    let seen : length (standing d) ≡ length (standing c.args.self.now) = ap (λ (o : Over). length (standing o)) c.self.view_is in
    omega (arith, few, all, same, seen, c.len.ensures, c.len-2.ensures)
