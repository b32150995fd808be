use Rattle.std.proofs.Common.{◌≡◌, ◌+◌, ◌<◌, ◌^◌, length, sym, ◌∙◌, ap, subst, arith}
use Rattle.dl_base.specs.FactOrder.{AreSorted}
use Rattle.fact_delta.specs.Deltas.{Over, standing}
use Rattle.fact_index.proofs.whole.WholeVersions.count.Goals as goal

pub count-requires-clause-base : goal.count-requires-clause-base
count-requires-clause-base c = c.len-of_base.ensures ∙ ap length c.base.ensures ∙ ap (λ (d : Over). length d.base) (c.deref.ensures ∙ sym c.deref-2.ensures)

pub count-requires-clause-room : goal.count-requires-clause-room
count-requires-clause-room c =
    let all : c.len-of_base.result ≡ length c.deref-2.result.now.base = c.len-of_base.ensures ∙ ap length c.base.ensures ∙ ap (λ (d : Over). length d.base) (c.deref.ensures ∙ sym c.deref-2.ensures) in
    let room : length c.deref-2.result.now.base + length c.deref-2.result.now.came < 2 ^ 64 = subst (λ (d : Over). length d.base + length d.came < 2 ^ 64) (sym c.deref-2.ensures) c.self.invariant.room in
    omega (arith, all, room)

pub returns-clause-count : goal.returns-clause-count
returns-clause-count c = c.count.ensures ∙ ap (λ (d : Over). length (standing d)) c.deref-2.ensures ∙ ap length c.self.view_is

pub returns-clause-sorted : goal.returns-clause-sorted
returns-clause-sorted c = subst AreSorted c.self.view_is c.self.invariant.sorted
